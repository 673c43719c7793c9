-- Word lists, and what the definitions say that they ask for, computed.
use Rattle.std.proofs.Common.{◌≡◌, ℕ, Bool, true, false, List, [], ◌∷◌, map, Option, Some, None, option_map, refl}
use lib.Chars.{codes}
use Prim.Native.String.{String}
use Rattle.cdp_text.specs.Decimal.{decimal_value}
use Rattle.debug_host_options.specs.declared.command.Subcommand.TheVariants as command
use Rattle.debug_host_options.specs.Requests.{Request, Sources, RunWords, ReplayWords, ServeWords, SendWords, Run, Replay, Drill, Serve, Send, Help, Version, form}

-- what these words ask for
abbrev asked : List String → Option Request
asked words = form (map codes words)

-- scripts, with input or without
abbrev program : Option String → List String → Sources
program input scripts = record { input = option_map codes input; scripts = map codes scripts }

abbrev run : Bool → Sources → RunWords
run explain sources = record { explain = explain; sources = sources }

abbrev replay : Bool → Bool → String → Sources → ReplayWords
replay explain wait journal sources =
    record { explain = explain; wait = wait; journal = codes journal; sources = sources }

-- a server that stores no journal
abbrev serve : Bool → ℕ → ℕ → Bool → Bool → Sources → ServeWords
serve explain port sessions wait devtools sources =
    record {
      explain = explain;
      port = port;
      sessions = sessions;
      wait = wait;
      devtools = devtools;
      journal = None;
      sources = sources;
    }

-- a server that stores its journal under this name
abbrev serve_stored : ℕ → Bool → String → Sources → ServeWords
serve_stored sessions wait journal sources =
    record {
      explain = false;
      port = 9229;
      sessions = sessions;
      wait = wait;
      devtools = false;
      journal = Some (codes journal);
      sources = sources;
    }

abbrev send : Bool → ℕ → String → SendWords
send explain port commands = record { explain = explain; port = port; commands = codes commands }

-- ---- words that begin with no command

form_1 : asked [] ≡ None
unfolding decimal_value
form_1 = refl

form_2 : asked ("" ∷ []) ≡ None
unfolding decimal_value
form_2 = refl

form_3 : asked ("-" ∷ []) ≡ None
unfolding decimal_value
form_3 = refl

form_4 : asked ("--" ∷ []) ≡ None
unfolding decimal_value
form_4 = refl

form_5 : asked ("--" ∷ "run" ∷ "a.js" ∷ []) ≡ None
unfolding decimal_value
form_5 = refl

form_6 : asked ("RUN" ∷ "a.js" ∷ []) ≡ None
unfolding decimal_value
form_6 = refl

form_7 : asked ("runs" ∷ "a.js" ∷ []) ≡ None
unfolding decimal_value
form_7 = refl

form_8 : asked ("help" ∷ []) ≡ None
unfolding decimal_value
form_8 = refl

form_9 : asked ("help" ∷ "run" ∷ []) ≡ None
unfolding decimal_value
form_9 = refl

-- ---- help and the version

form_10 : asked ("--help" ∷ []) ≡ Some (Help None)
unfolding decimal_value
form_10 = refl

form_11 : asked ("-h" ∷ []) ≡ Some (Help None)
unfolding decimal_value
form_11 = refl

form_12 : asked ("--version" ∷ []) ≡ Some (Version)
unfolding decimal_value
form_12 = refl

form_13 : asked ("-V" ∷ []) ≡ None
unfolding decimal_value
form_13 = refl

form_14 : asked ("--help" ∷ "--help" ∷ []) ≡ None
unfolding decimal_value
form_14 = refl

form_15 : asked ("--help" ∷ "run" ∷ []) ≡ None
unfolding decimal_value
form_15 = refl

form_16 : asked ("--version" ∷ "x" ∷ []) ≡ None
unfolding decimal_value
form_16 = refl

form_17 : asked ("--help=" ∷ []) ≡ None
unfolding decimal_value
form_17 = refl

form_18 : asked ("run" ∷ "--help" ∷ []) ≡ Some (Help (Some command.Run))
unfolding decimal_value
form_18 = refl

form_19 : asked ("replay" ∷ "-h" ∷ []) ≡ Some (Help (Some command.Replay))
unfolding decimal_value
form_19 = refl

form_20 : asked ("drill" ∷ "--help" ∷ []) ≡ Some (Help (Some command.Drill))
unfolding decimal_value
form_20 = refl

form_21 : asked ("serve" ∷ "-h" ∷ []) ≡ Some (Help (Some command.Serve))
unfolding decimal_value
form_21 = refl

form_22 : asked ("send" ∷ "--help" ∷ []) ≡ Some (Help (Some command.Send))
unfolding decimal_value
form_22 = refl

form_23 : asked ("run" ∷ "--help" ∷ "a.js" ∷ []) ≡ None
unfolding decimal_value
form_23 = refl

form_24 : asked ("run" ∷ "a.js" ∷ "-h" ∷ []) ≡ None
unfolding decimal_value
form_24 = refl

form_25 : asked ("run" ∷ "--version" ∷ []) ≡ None
unfolding decimal_value
form_25 = refl

form_26 : asked ("run" ∷ "--help" ∷ "--help" ∷ []) ≡ None
unfolding decimal_value
form_26 = refl

form_27 : asked ("run" ∷ "--" ∷ "--help" ∷ []) ≡ Some (Run (run false (program None ("--help" ∷ []))))
unfolding decimal_value
form_27 = refl

-- ---- scripts

form_28 : asked ("run" ∷ []) ≡ None
unfolding decimal_value
form_28 = refl

form_29 : asked ("run" ∷ "a.js" ∷ []) ≡ Some (Run (run false (program None ("a.js" ∷ []))))
unfolding decimal_value
form_29 = refl

form_30 : asked ("run" ∷ "a.js" ∷ "b.js" ∷ "a.js" ∷ [])
    ≡ Some (Run (run false (program None ("a.js" ∷ "b.js" ∷ "a.js" ∷ []))))
unfolding decimal_value
form_30 = refl

form_31 : asked ("run" ∷ "" ∷ []) ≡ Some (Run (run false (program None ("" ∷ []))))
unfolding decimal_value
form_31 = refl

form_32 : asked ("run" ∷ "-" ∷ []) ≡ Some (Run (run false (program None ("-" ∷ []))))
unfolding decimal_value
form_32 = refl

form_33 : asked ("run" ∷ "--input" ∷ "f" ∷ []) ≡ None
unfolding decimal_value
form_33 = refl

form_34 : asked ("run" ∷ "--input" ∷ []) ≡ None
unfolding decimal_value
form_34 = refl

form_35 : asked ("run" ∷ "--input" ∷ "f" ∷ "a.js" ∷ []) ≡ Some (Run (run false (program (Some "f") ("a.js" ∷ []))))
unfolding decimal_value
form_35 = refl

form_36 : asked ("run" ∷ "a.js" ∷ "--input" ∷ "f" ∷ "b.js" ∷ [])
    ≡ Some (Run (run false (program (Some "f") ("a.js" ∷ "b.js" ∷ []))))
unfolding decimal_value
form_36 = refl

form_37 : asked ("run" ∷ "a.js" ∷ "--input" ∷ "f" ∷ []) ≡ Some (Run (run false (program (Some "f") ("a.js" ∷ []))))
unfolding decimal_value
form_37 = refl

form_38 : asked ("run" ∷ "--input=f" ∷ "a.js" ∷ []) ≡ Some (Run (run false (program (Some "f") ("a.js" ∷ []))))
unfolding decimal_value
form_38 = refl

form_39 : asked ("run" ∷ "--input=" ∷ "a.js" ∷ []) ≡ Some (Run (run false (program (Some "") ("a.js" ∷ []))))
unfolding decimal_value
form_39 = refl

form_40 : asked ("run" ∷ "--input=-x" ∷ "a.js" ∷ []) ≡ Some (Run (run false (program (Some "-x") ("a.js" ∷ []))))
unfolding decimal_value
form_40 = refl

form_41 : asked ("run" ∷ "--input==" ∷ "a.js" ∷ []) ≡ Some (Run (run false (program (Some "=") ("a.js" ∷ []))))
unfolding decimal_value
form_41 = refl

form_42 : asked ("run" ∷ "--input=a=b" ∷ "a.js" ∷ []) ≡ Some (Run (run false (program (Some "a=b") ("a.js" ∷ []))))
unfolding decimal_value
form_42 = refl

form_43 : asked ("run" ∷ "--input" ∷ "-" ∷ "a.js" ∷ []) ≡ Some (Run (run false (program (Some "-") ("a.js" ∷ []))))
unfolding decimal_value
form_43 = refl

form_44 : asked ("run" ∷ "--input" ∷ "" ∷ "a.js" ∷ []) ≡ Some (Run (run false (program (Some "") ("a.js" ∷ []))))
unfolding decimal_value
form_44 = refl

form_45 : asked ("run" ∷ "--input" ∷ "-x" ∷ "a.js" ∷ []) ≡ None
unfolding decimal_value
form_45 = refl

form_46 : asked ("run" ∷ "--input" ∷ "--" ∷ "a.js" ∷ []) ≡ None
unfolding decimal_value
form_46 = refl

form_47 : asked ("run" ∷ "--input" ∷ "--input" ∷ "a.js" ∷ []) ≡ None
unfolding decimal_value
form_47 = refl

form_48 : asked ("run" ∷ "--input" ∷ "--input=f" ∷ "a.js" ∷ []) ≡ None
unfolding decimal_value
form_48 = refl

form_49 : asked ("run" ∷ "--input" ∷ "f" ∷ "--input" ∷ "g" ∷ "a.js" ∷ []) ≡ None
unfolding decimal_value
form_49 = refl

form_50 : asked ("run" ∷ "--input=f" ∷ "a.js" ∷ "--input=f" ∷ []) ≡ None
unfolding decimal_value
form_50 = refl

form_51 : asked ("run" ∷ "--wait" ∷ "a.js" ∷ []) ≡ None
unfolding decimal_value
form_51 = refl

form_52 : asked ("run" ∷ "--port" ∷ "1" ∷ "a.js" ∷ []) ≡ None
unfolding decimal_value
form_52 = refl

form_53 : asked ("run" ∷ "-x" ∷ []) ≡ None
unfolding decimal_value
form_53 = refl

form_54 : asked ("run" ∷ "-1" ∷ []) ≡ None
unfolding decimal_value
form_54 = refl

form_55 : asked ("run" ∷ "--" ∷ "-x" ∷ []) ≡ Some (Run (run false (program None ("-x" ∷ []))))
unfolding decimal_value
form_55 = refl

form_56 : asked ("run" ∷ "--" ∷ "-" ∷ "--" ∷ "a" ∷ []) ≡ Some (Run (run false (program None ("-" ∷ "--" ∷ "a" ∷ []))))
unfolding decimal_value
form_56 = refl

form_57 : asked ("run" ∷ "a.js" ∷ "--" ∷ []) ≡ Some (Run (run false (program None ("a.js" ∷ []))))
unfolding decimal_value
form_57 = refl

form_58 : asked ("run" ∷ "--" ∷ []) ≡ None
unfolding decimal_value
form_58 = refl

form_59 : asked ("run" ∷ "a.js" ∷ "--" ∷ "--input" ∷ "f" ∷ [])
    ≡ Some (Run (run false (program None ("a.js" ∷ "--input" ∷ "f" ∷ []))))
unfolding decimal_value
form_59 = refl

form_60 : asked ("run" ∷ "--input" ∷ "f" ∷ "--" ∷ "a.js" ∷ [])
    ≡ Some (Run (run false (program (Some "f") ("a.js" ∷ []))))
unfolding decimal_value
form_60 = refl

form_61 : asked ("run" ∷ "--Input" ∷ "f" ∷ "a.js" ∷ []) ≡ None
unfolding decimal_value
form_61 = refl

form_62 : asked ("run" ∷ "--inp" ∷ "f" ∷ "a.js" ∷ []) ≡ None
unfolding decimal_value
form_62 = refl

form_63 : asked ("run" ∷ "--=f" ∷ "a.js" ∷ []) ≡ None
unfolding decimal_value
form_63 = refl

form_64 : asked ("run" ∷ "---input" ∷ "f" ∷ "a.js" ∷ []) ≡ None
unfolding decimal_value
form_64 = refl

form_65 : asked ("run" ∷ "-input" ∷ "f" ∷ "a.js" ∷ []) ≡ None
unfolding decimal_value
form_65 = refl

-- ---- journals

form_66 : asked ("replay" ∷ []) ≡ None
unfolding decimal_value
form_66 = refl

form_67 : asked ("replay" ∷ "j" ∷ []) ≡ None
unfolding decimal_value
form_67 = refl

form_68 : asked ("replay" ∷ "j" ∷ "s" ∷ []) ≡ Some (Replay (replay false false "j" (program None ("s" ∷ []))))
unfolding decimal_value
form_68 = refl

form_69 : asked ("replay" ∷ "--wait" ∷ "j" ∷ "s" ∷ []) ≡ Some (Replay (replay false true "j" (program None ("s" ∷ []))))
unfolding decimal_value
form_69 = refl

form_70 : asked ("replay" ∷ "j" ∷ "--wait" ∷ "s" ∷ "t" ∷ [])
    ≡ Some (Replay (replay false true "j" (program None ("s" ∷ "t" ∷ []))))
unfolding decimal_value
form_70 = refl

form_71 : asked ("replay" ∷ "j" ∷ "s" ∷ "--wait" ∷ []) ≡ Some (Replay (replay false true "j" (program None ("s" ∷ []))))
unfolding decimal_value
form_71 = refl

form_72 : asked ("replay" ∷ "--wait" ∷ "--wait" ∷ "j" ∷ "s" ∷ []) ≡ None
unfolding decimal_value
form_72 = refl

form_73 : asked ("replay" ∷ "--wait=" ∷ "j" ∷ "s" ∷ []) ≡ None
unfolding decimal_value
form_73 = refl

form_74 : asked ("replay" ∷ "--wait=true" ∷ "j" ∷ "s" ∷ []) ≡ None
unfolding decimal_value
form_74 = refl

form_75 : asked ("replay" ∷ "--input" ∷ "f" ∷ "--wait" ∷ "j" ∷ "s" ∷ [])
    ≡ Some (Replay (replay false true "j" (program (Some "f") ("s" ∷ []))))
unfolding decimal_value
form_75 = refl

form_76 : asked ("replay" ∷ "--input" ∷ "j" ∷ "s" ∷ []) ≡ None
unfolding decimal_value
form_76 = refl

form_77 : asked ("replay" ∷ "--" ∷ "--wait" ∷ "s" ∷ [])
    ≡ Some (Replay (replay false false "--wait" (program None ("s" ∷ []))))
unfolding decimal_value
form_77 = refl

form_78 : asked ("replay" ∷ "--sessions" ∷ "1" ∷ "j" ∷ "s" ∷ []) ≡ None
unfolding decimal_value
form_78 = refl

-- ---- drills

form_79 : asked ("drill" ∷ []) ≡ None
unfolding decimal_value
form_79 = refl

form_80 : asked ("drill" ∷ "1" ∷ []) ≡ Some (Drill 1)
unfolding decimal_value
form_80 = refl

form_81 : asked ("drill" ∷ "10000" ∷ []) ≡ Some (Drill 10000)
unfolding decimal_value
form_81 = refl

form_82 : asked ("drill" ∷ "10001" ∷ []) ≡ None
unfolding decimal_value
form_82 = refl

form_83 : asked ("drill" ∷ "0" ∷ []) ≡ None
unfolding decimal_value
form_83 = refl

form_84 : asked ("drill" ∷ "01" ∷ []) ≡ None
unfolding decimal_value
form_84 = refl

form_85 : asked ("drill" ∷ "+1" ∷ []) ≡ None
unfolding decimal_value
form_85 = refl

form_86 : asked ("drill" ∷ " 1" ∷ []) ≡ None
unfolding decimal_value
form_86 = refl

form_87 : asked ("drill" ∷ "1 " ∷ []) ≡ None
unfolding decimal_value
form_87 = refl

form_88 : asked ("drill" ∷ "" ∷ []) ≡ None
unfolding decimal_value
form_88 = refl

form_89 : asked ("drill" ∷ "-1" ∷ []) ≡ None
unfolding decimal_value
form_89 = refl

form_90 : asked ("drill" ∷ "--" ∷ "-1" ∷ []) ≡ None
unfolding decimal_value
form_90 = refl

form_91 : asked ("drill" ∷ "--" ∷ "7" ∷ []) ≡ Some (Drill 7)
unfolding decimal_value
form_91 = refl

form_92 : asked ("drill" ∷ "1" ∷ "2" ∷ []) ≡ None
unfolding decimal_value
form_92 = refl

form_93 : asked ("drill" ∷ "--wait" ∷ "1" ∷ []) ≡ None
unfolding decimal_value
form_93 = refl

form_94 : asked ("drill" ∷ "18446744073709551617" ∷ []) ≡ None
unfolding decimal_value
form_94 = refl

form_95 : asked ("drill" ∷ "1e3" ∷ []) ≡ None
unfolding decimal_value
form_95 = refl

-- ---- servers

form_96 : asked ("serve" ∷ []) ≡ None
unfolding decimal_value
form_96 = refl

form_97 : asked ("serve" ∷ "a.js" ∷ []) ≡ Some (Serve (serve false 9229 4 false false (program None ("a.js" ∷ []))))
unfolding decimal_value
form_97 = refl

form_98 : asked ("serve" ∷ "--port" ∷ "1" ∷ "a.js" ∷ [])
    ≡ Some (Serve (serve false 1 4 false false (program None ("a.js" ∷ []))))
unfolding decimal_value
form_98 = refl

form_99 : asked ("serve" ∷ "--port" ∷ "65535" ∷ "a.js" ∷ [])
    ≡ Some (Serve (serve false 65535 4 false false (program None ("a.js" ∷ []))))
unfolding decimal_value
form_99 = refl

form_100 : asked ("serve" ∷ "--port" ∷ "65536" ∷ "a.js" ∷ []) ≡ None
unfolding decimal_value
form_100 = refl

form_101 : asked ("serve" ∷ "--port" ∷ "0" ∷ "a.js" ∷ []) ≡ None
unfolding decimal_value
form_101 = refl

form_102 : asked ("serve" ∷ "--port=" ∷ "a.js" ∷ []) ≡ None
unfolding decimal_value
form_102 = refl

form_103 : asked ("serve" ∷ "--port=080" ∷ "a.js" ∷ []) ≡ None
unfolding decimal_value
form_103 = refl

form_104 : asked ("serve" ∷ "--port=+80" ∷ "a.js" ∷ []) ≡ None
unfolding decimal_value
form_104 = refl

form_105 : asked ("serve" ∷ "--port" ∷ "a.js" ∷ []) ≡ None
unfolding decimal_value
form_105 = refl

form_106 : asked ("serve" ∷ "--port" ∷ "-1" ∷ "a.js" ∷ []) ≡ None
unfolding decimal_value
form_106 = refl

form_107 : asked ("serve" ∷ "--port=-1" ∷ "a.js" ∷ []) ≡ None
unfolding decimal_value
form_107 = refl

form_108 : asked ("serve" ∷ "--por" ∷ "1" ∷ "a.js" ∷ []) ≡ None
unfolding decimal_value
form_108 = refl

form_109 : asked ("serve" ∷ "--sessions" ∷ "16" ∷ "a.js" ∷ [])
    ≡ Some (Serve (serve false 9229 16 false false (program None ("a.js" ∷ []))))
unfolding decimal_value
form_109 = refl

form_110 : asked ("serve" ∷ "--sessions=1" ∷ "a.js" ∷ [])
    ≡ Some (Serve (serve false 9229 1 false false (program None ("a.js" ∷ []))))
unfolding decimal_value
form_110 = refl

form_111 : asked ("serve" ∷ "--sessions" ∷ "17" ∷ "a.js" ∷ []) ≡ None
unfolding decimal_value
form_111 = refl

form_112 : asked ("serve" ∷ "--sessions" ∷ "0" ∷ "a.js" ∷ []) ≡ None
unfolding decimal_value
form_112 = refl

form_113 : asked ("serve" ∷ "a.js" ∷ "--wait" ∷ "--sessions" ∷ "2" ∷ "b.js" ∷ "--port=80" ∷ "--input=f" ∷ [])
    ≡ Some (Serve (serve false 80 2 true false (program (Some "f") ("a.js" ∷ "b.js" ∷ []))))
unfolding decimal_value
form_113 = refl

form_114 : asked ("serve" ∷ "--port" ∷ "1" ∷ "--port" ∷ "1" ∷ "a.js" ∷ []) ≡ None
unfolding decimal_value
form_114 = refl

form_115 : asked ("serve" ∷ "--port=1" ∷ "--port" ∷ "2" ∷ "a.js" ∷ []) ≡ None
unfolding decimal_value
form_115 = refl

form_116 : asked ("serve" ∷ "--wait" ∷ "a.js" ∷ "--wait" ∷ []) ≡ None
unfolding decimal_value
form_116 = refl

form_117 : asked ("serve" ∷ "--wait" ∷ "--port" ∷ "5" ∷ "--" ∷ "--port" ∷ [])
    ≡ Some (Serve (serve false 5 4 true false (program None ("--port" ∷ []))))
unfolding decimal_value
form_117 = refl

-- ---- clients

form_118 : asked ("send" ∷ []) ≡ None
unfolding decimal_value
form_118 = refl

form_119 : asked ("send" ∷ "c" ∷ []) ≡ Some (Send (send false 9229 "c"))
unfolding decimal_value
form_119 = refl

form_120 : asked ("send" ∷ "c" ∷ "d" ∷ []) ≡ None
unfolding decimal_value
form_120 = refl

form_121 : asked ("send" ∷ "--port" ∷ "7" ∷ "c" ∷ []) ≡ Some (Send (send false 7 "c"))
unfolding decimal_value
form_121 = refl

form_122 : asked ("send" ∷ "c" ∷ "--port=7" ∷ []) ≡ Some (Send (send false 7 "c"))
unfolding decimal_value
form_122 = refl

form_123 : asked ("send" ∷ "-" ∷ []) ≡ Some (Send (send false 9229 "-"))
unfolding decimal_value
form_123 = refl

form_124 : asked ("send" ∷ "--" ∷ "-c" ∷ []) ≡ Some (Send (send false 9229 "-c"))
unfolding decimal_value
form_124 = refl

form_125 : asked ("send" ∷ "c" ∷ "--" ∷ "--port" ∷ []) ≡ None
unfolding decimal_value
form_125 = refl

form_126 : asked ("send" ∷ "--wait" ∷ "c" ∷ []) ≡ None
unfolding decimal_value
form_126 = refl

form_127 : asked ("send" ∷ "--input" ∷ "f" ∷ "c" ∷ []) ≡ None
unfolding decimal_value
form_127 = refl

form_128 : asked ("send" ∷ "--port" ∷ "7" ∷ []) ≡ None
unfolding decimal_value
form_128 = refl

-- ---- `--explain`

form_129 : asked ("run" ∷ "--explain" ∷ "a.js" ∷ []) ≡ Some (Run (run true (program None ("a.js" ∷ []))))
unfolding decimal_value
form_129 = refl

form_130 : asked ("replay" ∷ "j" ∷ "s" ∷ "--explain" ∷ [])
    ≡ Some (Replay (replay true false "j" (program None ("s" ∷ []))))
unfolding decimal_value
form_130 = refl

form_131 : asked ("serve" ∷ "a.js" ∷ "--explain" ∷ "--wait" ∷ [])
    ≡ Some (Serve (serve true 9229 4 true false (program None ("a.js" ∷ []))))
unfolding decimal_value
form_131 = refl

form_132 : asked ("send" ∷ "--explain" ∷ "c" ∷ []) ≡ Some (Send (send true 9229 "c"))
unfolding decimal_value
form_132 = refl

form_133 : asked ("drill" ∷ "--explain" ∷ "1" ∷ []) ≡ None
unfolding decimal_value
form_133 = refl

form_134 : asked ("run" ∷ "--explain" ∷ "--explain" ∷ "a.js" ∷ []) ≡ None
unfolding decimal_value
form_134 = refl

form_135 : asked ("run" ∷ "--explain=1" ∷ "a.js" ∷ []) ≡ None
unfolding decimal_value
form_135 = refl

form_136 : asked ("--explain" ∷ "run" ∷ "a.js" ∷ []) ≡ None
unfolding decimal_value
form_136 = refl

form_137 : asked ("run" ∷ "--" ∷ "--explain" ∷ []) ≡ Some (Run (run false (program None ("--explain" ∷ []))))
unfolding decimal_value
form_137 = refl

-- ---- `--devtools`

form_138 : asked ("serve" ∷ "--devtools" ∷ "a.js" ∷ [])
    ≡ Some (Serve (serve false 9229 4 false true (program None ("a.js" ∷ []))))
unfolding decimal_value
form_138 = refl

form_139 : asked ("serve" ∷ "a.js" ∷ "--wait" ∷ "--devtools" ∷ [])
    ≡ Some (Serve (serve false 9229 4 true true (program None ("a.js" ∷ []))))
unfolding decimal_value
form_139 = refl

form_140 : asked ("serve" ∷ "--devtools" ∷ "--devtools" ∷ "a.js" ∷ []) ≡ None
unfolding decimal_value
form_140 = refl

form_141 : asked ("serve" ∷ "--devtools=1" ∷ "a.js" ∷ []) ≡ None
unfolding decimal_value
form_141 = refl

form_142 : asked ("replay" ∷ "--devtools" ∷ "j" ∷ "a.js" ∷ []) ≡ None
unfolding decimal_value
form_142 = refl

form_143 : asked ("run" ∷ "--devtools" ∷ "a.js" ∷ []) ≡ None
unfolding decimal_value
form_143 = refl

-- ---- `--journal`

form_144 : asked ("serve" ∷ "--journal" ∷ "j" ∷ "a.js" ∷ [])
    ≡ Some (Serve (serve_stored 4 false "j" (program None ("a.js" ∷ []))))
unfolding decimal_value
form_144 = refl

form_145 : asked ("serve" ∷ "a.js" ∷ "--journal=j" ∷ "--wait" ∷ "--input" ∷ "f" ∷ "--sessions=2" ∷ [])
    ≡ Some (Serve (serve_stored 2 true "j" (program (Some "f") ("a.js" ∷ []))))
unfolding decimal_value
form_145 = refl

form_146 : asked ("serve" ∷ "--journal" ∷ "j" ∷ "--journal" ∷ "k" ∷ "a.js" ∷ []) ≡ None
unfolding decimal_value
form_146 = refl

form_147 : asked ("serve" ∷ "--journal" ∷ "a.js" ∷ []) ≡ None
unfolding decimal_value
form_147 = refl

form_148 : asked ("serve" ∷ "a.js" ∷ "--journal" ∷ []) ≡ None
unfolding decimal_value
form_148 = refl

form_149 : asked ("serve" ∷ "--journal" ∷ "-j" ∷ "a.js" ∷ []) ≡ None
unfolding decimal_value
form_149 = refl

form_150 : asked ("run" ∷ "--journal" ∷ "j" ∷ "a.js" ∷ []) ≡ None
unfolding decimal_value
form_150 = refl

form_151 : asked ("replay" ∷ "--journal" ∷ "j" ∷ "a.js" ∷ []) ≡ None
unfolding decimal_value
form_151 = refl

form_152 : asked ("send" ∷ "--journal" ∷ "j" ∷ "c" ∷ []) ≡ None
unfolding decimal_value
form_152 = refl

form_153 : asked ("serve" ∷ "--" ∷ "--journal" ∷ [])
    ≡ Some (Serve (serve false 9229 4 false false (program None ("--journal" ∷ []))))
unfolding decimal_value
form_153 = refl
