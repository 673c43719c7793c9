-- Traffic, and then more of it.
use Rattle.std.proofs.Common.{◌≡◌, ℕ, List, [], ◌∷◌, ◌++◌, refl, ap, sym, ◌∙◌, append_assoc}
use Rattle.cdp_edge.specs.Outside.{gains}
use Rattle.cdp_edge.proofs.Gains.{gains-append, gains-nil}
use Rattle.cdp_text.specs.Lines.{ended}
use Rattle.cdp_edge_server.specs.Heard.{Heard}
use Rattle.cdp_edge_server.proofs.ToldLemmas.{adds-append, adds-nil}
use Rattle.cdp_client.specs.Conversations.{Traffic, passes}

-- lines one after another
pub ended-append : (xs ys : List (List ℕ)) → ended (xs ++ ys) ≡ ended xs ++ ended ys
ended-append [] ys = refl
ended-append (x ∷ xs) ys =
    ap (λ rest. x ++ 10 ∷ rest) (ended-append xs ys) ∙ sym (append_assoc x (10 ∷ ended xs) (ended ys))

gains-on : (old : List ℕ) (xs ys : List (List ℕ))
    → gains (gains old (ended xs)) (ended ys) ≡ gains old (ended (xs ++ ys))
gains-on old xs ys = gains-append old (ended xs) (ended ys) ∙ ap (λ b. gains old b) (sym (ended-append xs ys))

pub passes-none : (old : Traffic) → old ≡ passes old [] [] []
passes-none old = λ i. record {
  answers = sym (adds-nil old.answers) i;
  sent = sym (adds-nil old.sent) i;
  written = sym (gains-nil old.written) i;
}

pub passes-on : (old : Traffic) (a b : List Heard) (t u : List (List ℕ)) (v w : List (List ℕ))
    → passes (passes old a t v) b u w ≡ passes old (a ++ b) (t ++ u) (v ++ w)
passes-on old a b t u v w = λ i. record {
  answers = adds-append old.answers a b i;
  sent = adds-append old.sent t u i;
  written = gains-on old.written v w i;
}
