-- Loops over scripts: from one script to those behind it.
use Rattle.std.proofs.Common.{◌≡◌, ℕ, ◌+◌, ◌<◌, List, [], ◌∷◌, ◌++◌, length, drop, get_or, map, Option, sym, ap, ◌∙◌, append_assoc}
use Rattle.std.specs.Prelude.{if◌then◌else◌, option_to_list}
use Rattle.std.proofs.lemmas.Bool.{eq-eqb}
use Rattle.std.proofs.lemmas.List.{map-append}
use Rattle.std.specs.Global.{Vec}
use Rattle.cdp_text.specs.declared.position.Pos.{Pos}
use Rattle.cdp_text.specs.declared.position.Place.{Place}
use Rattle.js_tree.specs.declared.script.Script.{Script}
use Rattle.locations.specs.declared.spot.Spot.{Spot}
use Rattle.locations.specs.Locations.{break_locations}
use Rattle.breakpoints.specs.Found.{spots_in}
use Rattle.breakpoints.specs.Resolving.{resolved_in, resolved_of, resolved_at, resolved_by_url}
use Rattle.cdp_text.proofs.ListLemmas.{from-here}

-- the script of the number that is asked for
pub resolved-here : (place : Place) (ss : List Script) (i : ℕ) (s : Script) (r : Option Place)
    → i < length ss
    → s ≡ get_or ss i s
    → s.number ≡ place.script
    → r ≡ resolved_in place.pos s
    → resolved_at place (drop i ss) ≡ resolved_at place ss
    → r ≡ resolved_at place ss
resolved-here place ss i s r h e n k inv =
    k
    ∙ (sym (ap (resolved_at place) (from-here ss i s h e)
    ∙ ap (λ b. if b then resolved_in place.pos s else resolved_at place (drop (i + 1) ss))
    (eq-eqb s.number place.script n))
    ∙ inv)

-- one script more of those of a URL
pub resolved-more : (url : List ℕ) (p : Pos) (ss : List Script) (i : ℕ) (s : Script) (places : List Place)
    (o : Option Place)
    → i < length ss
    → s ≡ get_or ss i s
    → o ≡ resolved_of url p s
    → places ++ resolved_by_url url p (drop i ss) ≡ resolved_by_url url p ss
    → (places ++ option_to_list o) ++ resolved_by_url url p (drop (i + 1) ss) ≡ resolved_by_url url p ss
resolved-more url p ss i s places o h e k inv =
    append_assoc places (option_to_list o) (resolved_by_url url p (drop (i + 1) ss))
    ∙ (ap (λ q. places ++ (option_to_list q ++ resolved_by_url url p (drop (i + 1) ss))) k
    ∙ (sym (ap (λ ts. places ++ resolved_by_url url p ts) (from-here ss i s h e)) ∙ inv))

-- one list of locations more
pub found-more : (lists all : List (Vec Spot)) (v : Vec Spot) (ss : List Script) (i : ℕ) (s : Script)
    → all ≡ lists ++ v ∷ []
    → v.items ≡ break_locations s
    → i < length ss
    → s ≡ get_or ss i s
    → map spots_in lists ++ map break_locations (drop i ss) ≡ map break_locations ss
    → map spots_in all ++ map break_locations (drop (i + 1) ss) ≡ map break_locations ss
found-more lists all v ss i s a b h e inv =
    ap (λ vs. map spots_in vs ++ map break_locations (drop (i + 1) ss)) a
    ∙ (ap (λ vs. vs ++ map break_locations (drop (i + 1) ss)) (map-append spots_in lists (v ∷ []))
    ∙ (append_assoc (map spots_in lists) (v.items ∷ []) (map break_locations (drop (i + 1) ss))
    ∙ (ap (λ l. map spots_in lists ++ l ∷ map break_locations (drop (i + 1) ss)) b
    ∙ (sym (ap (λ ts. map spots_in lists ++ map break_locations ts) (from-here ss i s h e)) ∙ inv))))
