use Rattle.debug_host_commands.proofs.serve.serve.Given as goal

abbrev pub ghosts-serve_program : goal.ghosts-serve_program
ghosts-serve_program g a = record { scripts = a.scripts.now; input = a.input.items; wait = a.wait }
