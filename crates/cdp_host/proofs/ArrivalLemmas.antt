-- Arrivals that agree, and the lines of scripts found one after another.
use Rattle.std.proofs.Common.{◌≡◌, ℕ, ◌+◌, ◌<◌, List, [], ◌∷◌, ◌++◌, map, take, length, get_or, All, Bool, Option, ap, sym, subst, ◌∙◌}
use Rattle.std.proofs.lemmas.List.{map-append, take_more}
use Rattle.std.proofs.lemmas.List.Elements.{All-push}
use Rattle.cdp_text.specs.declared.position.Place.{Place}
use Rattle.js_tree.specs.declared.script.Script.{Script}
use Rattle.stepping.specs.declared.arrival.Arrival.{Arrival}
use Rattle.frames_scopes.specs.Places.{starts_of}
use Rattle.cdp_host.specs.Arrivals.{IsShort}

abbrev arrived : Option Place → ℕ → Bool → Option Bool → Arrival
arrived place depth debugger raised = record { place = place; depth = depth; debugger = debugger; raised = raised }

pub same-arrival : (p q : Option Place) (d e : ℕ) (b c : Bool) (r s : Option Bool)
    → p ≡ q
    → d ≡ e
    → b ≡ c
    → r ≡ s
    → arrived p d b r ≡ arrived q e c s
same-arrival p q d e b c r s place depth debugger raised =
    ap (λ x. arrived x d b r) place
    ∙ ap (λ x. arrived q x b r) depth
    ∙ ap (λ x. arrived q e x r) debugger
    ∙ ap (λ x. arrived q e c x) raised

-- the first scripts and one more
first_and : (ss : List Script) (i : ℕ) (s : Script)
    → i < length ss
    → s ≡ get_or ss i s
    → take (i + 1) ss ≡ take i ss ++ s ∷ []
first_and ss i s h e = take_more ss i s h ∙ ap (λ x. take i ss ++ x ∷ []) (sym e)

pub lines-more : (lines all : List (List ℕ)) (v : List ℕ) (ss : List Script) (i : ℕ) (s : Script)
    → all ≡ lines ++ v ∷ []
    → v ≡ starts_of s
    → i < length ss
    → s ≡ get_or ss i s
    → lines ≡ map starts_of (take i ss) → all ≡ map starts_of (take (i + 1) ss)
lines-more lines all v ss i s pushed is h e inv =
    pushed
    ∙ ap (λ xs. xs ++ v ∷ []) inv
    ∙ ap (λ x. map starts_of (take i ss) ++ x ∷ []) is
    ∙ sym (map-append starts_of (take i ss) (s ∷ []))
    ∙ sym (ap (map starts_of) (first_and ss i s h e))

pub short-more : (ss : List Script) (i : ℕ) (s : Script)
    → i < length ss
    → s ≡ get_or ss i s
    → IsShort s
    → All IsShort (take i ss)
    → All IsShort (take (i + 1) ss)
short-more ss i s h e short all =
    subst (λ xs. All IsShort xs) (sym (first_and ss i s h e)) (All-push IsShort (take i ss) s all short)
