-- Some drills and summaries, by computation.
use Rattle.std.proofs.Common.{◌≡◌, ◌++◌, refl, codes}
use Rattle.std.specs.Fmt.{digits}
use Rattle.cdp_text.specs.Decimal.{decimal_value}
use Rattle.cdp_journal.specs.Drills.{drill_journal, drill_source, drill_steps, evens}
use Rattle.cdp_journal.specs.Summaries.{summary}

script-of-ten : drill_source 10 ≡
    codes "let t = 0;\nfunction f(i) {\n  t = t + i;\n  return t;\n}\n"
    ++ codes "for (let i = 0; i < 10; i++) {\n  f(i);\n}\nconsole.log(t);\n"
unfolding drill_source digits
script-of-ten = refl

journal-of-one : drill_journal 1 ≡
    codes "attach\nattach\ntell 1 {\"id\":1,\"method\":\"Debugger.enable\"}\n"
    ++ codes "tell 1 {\"id\":2,\"method\":\"Debugger.setBreakpointByUrl\",\"params\":"
    ++ codes "{\"condition\":\"i %25 2 == 0\",\"lineNumber\":3,\"url\":\"drill.js\"}}\n"
    ++ codes "tell 2 {\"id\":1,\"method\":\"Runtime.enable\"}\n"
    ++ codes "run 1000000 1\ntell 1 {\"id\":3,\"method\":\"Debugger.resume\"}\n"
    ++ codes "run 1000000 2\ntell 1 {\"id\":4,\"method\":\"Debugger.resume\"}\n"
    ++ codes "take 1\ntake 2\n"
unfolding drill_journal drill_steps evens digits
journal-of-one = refl

evens-of-nine : evens 9 ≡ 5
unfolding evens
evens-of-nine = refl

evens-of-ten : evens 10 ≡ 5
unfolding evens
evens-of-ten = refl

summary-of-a-run :
    summary
    (codes "attached 1\nattached 2\nto 1 {}\nran 70 paused\nran 24 paused\nto 1 {}\n"
    ++ codes "to 2 {}\nto 12 {}\nout 45\nran 100 ended\n")
    ≡ codes "out 45\nsteps 194\nstops 2\ntexts 1 2\ntexts 2 1\n"
unfolding summary digits decimal_value
summary-of-a-run = refl

-- lines that aren't of their form, and a last line without LF
summary-of-others :
    summary (codes "ran paused\nran 007 paused\nran 5\nran  paused\nran 6 pausedly\nout \nto 1\nout")
    ≡ codes "out \nsteps 6\nstops 0\ntexts 1 0\ntexts 2 0\n"
unfolding summary digits decimal_value
summary-of-others = refl

summary-of-nothing : summary (codes "") ≡ codes "steps 0\nstops 0\ntexts 1 0\ntexts 2 0\n"
unfolding summary digits decimal_value
summary-of-nothing = refl
