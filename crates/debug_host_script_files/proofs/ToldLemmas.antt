-- What a shelf hands in that tells its files is what these hold.
use Rattle.std.proofs.Common.{◌≡◌, ℕ, List, [], ◌∷◌, ◌++◌, Some, subst}
use Rattle.cdp_edge.specs.Outside.{NamedFile, AreOf, content_of, one_file}
use Rattle.js_tree.specs.declared.script.Script.{Script}
use Rattle.debug_host_script_files.specs.Input.{HoldsInput}
use Rattle.debug_host_script_files.specs.Scripts.{AreScripts, AreScriptsBehind}
use Rattle.debug_host_script_files.specs.Told.{KeepScripts, KeepsInput}

kept : (files given : List NamedFile) (earlier : List Script) (names : List (List ℕ)) (ss : List Script)
    → AreOf files given
    → AreScriptsBehind given earlier names ss
    → KeepScripts files earlier names ss
kept files [] earlier [] [] o h = tt
kept files [] earlier [] (s ∷ ss) o h = absurd h
kept files [] earlier (name ∷ names) ss o h = absurd h
kept files (file ∷ given) earlier [] ss o h = absurd h
kept files (file ∷ given) earlier (name ∷ names) [] o h = absurd h
kept files (file ∷ given) earlier (name ∷ names) (s ∷ ss) o h = (
  record {
    bytes = file.bytes;
    there = subst (λ (n : List ℕ). content_of n files ≡ Some file.bytes) h.0 o.0;
    script = h.1;
  },
  kept files given (earlier ++ s ∷ []) names ss o.1 h.2,
)

pub scripts_kept : (files given : List NamedFile) (names : List (List ℕ)) (ss : List Script)
    → AreOf files given
    → AreScripts given names ss
    → KeepScripts files [] names ss
scripts_kept files given names ss o h = kept files given [] names ss o h

pub input_kept : (files given : List NamedFile) (name : List ℕ) (lines : List (List ℕ))
    → AreOf files given
    → HoldsInput given name lines
    → KeepsInput files name lines
input_kept files given name lines o h =
    let here : AreOf files (one_file name h.bytes) = subst (λ (fs : List NamedFile). AreOf files fs) h.there o in
    record { bytes = h.bytes; there = here.0; utf8 = h.utf8; are = h.are }
