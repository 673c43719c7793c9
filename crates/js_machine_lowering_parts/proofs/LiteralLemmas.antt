-- The literals of a part, by what its form is, and of parts one after another.
use Rattle.std.proofs.Common.{◌≡◌, ℕ, ◌+◌, List, [], ◌∷◌, ◌++◌, length, Option, Some, None, map, refl, sym, ap, ◌∙◌, append_assoc, append-nil, length-append, add_assoc, drop, get_or, ◌<◌, ◌≤◌, Result, Ok, Err, OnOk}
use Rattle.std.proofs.lemmas.List.{drop_all, drop_more, map-append}
use Rattle.std.specs.Global.{Box}
use Rattle.js_heap.specs.declared.value.Value.TheVariants as values
use Rattle.js_heap.specs.declared.value.Addr.{Addr}
use Rattle.js_semantics.specs.declared.form.Form.{Form}
use Rattle.js_semantics.specs.declared.form.Form.TheVariants as forms
use Rattle.js_semantics.specs.Terms as semantics
use Rattle.js_semantics.specs.Run as run
use Rattle.js_semantics.specs.declared.form.SourceMark.{SourceMark}
use Rattle.js_heap.specs.declared.value.Value.{Value}
use Rattle.js_machine_terms.specs.declared.term.Term.{Term}
use Rattle.js_machine_terms.specs.declared.term.Terms.{Terms}
use Rattle.js_machine_terms.specs.declared.term.Term.TheViews as views
use Rattle.js_machine_terms.proofs.TermLemmas.{view_done, view_standing, view_part}
use Rattle.js_machine_terms.specs.Views.{term_view, terms_view, listed, listed_view}
use Rattle.js_machine_lowering_parts.specs.Literals.{literal_in}

abbrev literals_by : Option (List ℕ) → semantics.Terms → semantics.Terms → List (List ℕ)
literals_by (Some us) now later = us ∷ []
literals_by None now later = run.literals_of now ++ run.literals_of later

literals_part : (f : Form) (now later : semantics.Terms)
    → run.literals (semantics.part f now later) ≡ literals_by (literal_in f) now later
literals_part (forms.Literal us) now later = refl
literals_part _ now later = refl

abbrev placed_by : (ℕ → Addr) → Option (List ℕ) → ℕ → Form → semantics.Terms → semantics.Terms → semantics.Term
placed_by at (Some us) n f now later = semantics.done (values.Text (at n))
placed_by at None n f now later =
    semantics.part f (run.all_with_literals at n now)
    (run.all_with_literals at (n + length (run.literals_of now)) later)

placed_part : (at : ℕ → Addr) (f : Form) (now later : semantics.Terms) (n : ℕ)
    → run.with_literals at n (semantics.part f now later) ≡ placed_by at (literal_in f) n f now later
placed_part at (forms.Literal us) now later n = refl
placed_part at _ now later n = refl

-- a literal
pub literals_literal : (f : Form) (now later : semantics.Terms) (us : List ℕ)
    → Some us ≡ literal_in f
    → run.literals (semantics.part f now later) ≡ us ∷ []
literals_literal f now later us e = literals_part f now later ∙ ap (λ o. literals_by o now later) (sym e)

pub placed_literal : (at : ℕ → Addr) (f : Form) (now later : semantics.Terms) (us : List ℕ) (n : ℕ)
    → Some us ≡ literal_in f
    → run.with_literals at n (semantics.part f now later) ≡ semantics.done (values.Text (at n))
placed_literal at f now later us n e = placed_part at f now later n ∙ ap (λ o. placed_by at o n f now later) (sym e)

-- every other form
pub literals_parts : (f : Form) (now later : semantics.Terms)
    → None ≡ literal_in f
    → run.literals (semantics.part f now later) ≡ run.literals_of now ++ run.literals_of later
literals_parts f now later e = literals_part f now later ∙ ap (λ o. literals_by o now later) (sym e)

pub placed_parts : (at : ℕ → Addr) (f : Form) (now later : semantics.Terms) (n : ℕ)
    → None ≡ literal_in f
    → run.with_literals at n (semantics.part f now later)
    ≡ semantics.part f (run.all_with_literals at n now)
    (run.all_with_literals at (n + length (run.literals_of now)) later)
placed_parts at f now later n e = placed_part at f now later n ∙ ap (λ o. placed_by at o n f now later) (sym e)

-- what holds at all holds of a success
pub always_ok : {A E P : Type 0} (r : Result A E) → P → OnOk r P
always_ok (Ok a) p = p
always_ok (Err e) p = tt

-- ---- what is found in a part

pub found_done : (found : List (List ℕ)) (t : Term) (v : Value)
    → t ≡ Term.Done v
    → found ≡ found ++ run.literals (term_view t)
found_done found t v e = sym (ap (λ x. found ++ run.literals x) (ap term_view e ∙ view_done v) ∙ append-nil found)

pub found_standing : (found : List (List ℕ)) (t : Term) (v : Value) (s : SourceMark)
    → t ≡ Term.Standing v s
    → found ≡ found ++ run.literals (term_view t)
found_standing found t v s e =
    sym (ap (λ x. found ++ run.literals x) (ap term_view e ∙ view_standing v s) ∙ append-nil found)

pub found_parts : (found one two : List (List ℕ)) (t : Term) (f : Box Form) (now later : Terms)
    → t ≡ views.Part f now later
    → None ≡ literal_in f.value
    → one ≡ found ++ run.literals_of (terms_view now)
    → two ≡ one ++ run.literals_of (terms_view later)
    → two ≡ found ++ run.literals (term_view t)
found_parts found one two t f now later is other first second =
    second
    ∙ ap (λ us. us ++ run.literals_of (terms_view later)) first
    ∙ append_assoc found (run.literals_of (terms_view now)) (run.literals_of (terms_view later))
    ∙ ap (λ us. found ++ us)
    (sym (ap run.literals (ap term_view is ∙ view_part f now later)
    ∙ literals_parts f.value (terms_view now) (terms_view later) other))

pub counted_literal : (n m : ℕ) (t : Term) (f : Box Form) (now later : Terms) (us : List ℕ)
    → t ≡ views.Part f now later
    → Some us ≡ literal_in f.value
    → m ≡ n + 1
    → m ≡ n + length (run.literals (term_view t))
counted_literal n m t f now later us is literal e =
    e
    ∙ ap (λ xs. n + length xs)
    (sym (ap run.literals (ap term_view is ∙ view_part f now later)
    ∙ literals_literal f.value (terms_view now) (terms_view later) us literal))

pub counted_parts : (n one two : ℕ) (t : Term) (f : Box Form) (now later : Terms)
    → t ≡ views.Part f now later
    → None ≡ literal_in f.value
    → one ≡ n + length (run.literals_of (terms_view now))
    → two ≡ one + length (run.literals_of (terms_view later))
    → two ≡ n + length (run.literals (term_view t))
counted_parts n one two t f now later is other first second =
    second
    ∙ ap (λ k. k + length (run.literals_of (terms_view later))) first
    ∙ add_assoc n (length (run.literals_of (terms_view now))) (length (run.literals_of (terms_view later)))
    ∙ ap (λ k. n + k) (sym (length-append (run.literals_of (terms_view now)) (run.literals_of (terms_view later))))
    ∙ ap (λ us. n + length us)
    (sym (ap run.literals (ap term_view is ∙ view_part f now later)
    ∙ literals_parts f.value (terms_view now) (terms_view later) other))

pub ruleset literal_laws =
    (literals_literal, placed_literal, literals_parts, placed_parts, counted_literal, counted_parts)

pub ruleset found_laws = (literals_literal, literals_parts, found_done, found_standing, found_parts)

-- ---- loops

-- the parts placed so far, and those left
placed_front : (front : List semantics.Term) (t : semantics.Term) (rest : semantics.Terms)
    → semantics.joined (listed (front ++ t ∷ [])) rest ≡ semantics.joined (listed front) (semantics.more t rest)
placed_front [] t rest = refl
placed_front (f ∷ front) t rest = ap (semantics.more f) (placed_front front t rest)

pub placed_more : (at : ℕ → Addr) (front now : List Term) (t : Term) (x : Term) (rest : List Term) (n m : ℕ)
    → map term_view now ≡ map term_view front ++ term_view t ∷ []
    → term_view t ≡ run.with_literals at n (term_view x)
    → m ≡ n + length (run.literals (term_view x))
    → semantics.joined (listed_view now) (run.all_with_literals at m (listed_view rest)) ≡ semantics.joined
    (listed_view front) (run.all_with_literals at n (listed_view (x ∷ rest)))
placed_more at front now t x rest n m e placed counted =
    ap (λ ts. semantics.joined (listed ts) (run.all_with_literals at m (listed_view rest))) e
    ∙ placed_front (map term_view front) (term_view t) (run.all_with_literals at m (listed_view rest))
    ∙ ap (λ u. semantics.joined (listed_view front) (semantics.more u (run.all_with_literals at m (listed_view rest))))
    placed
    ∙ ap (λ k. semantics.joined (listed_view front)
    (semantics.more (run.with_literals at n (term_view x)) (run.all_with_literals at k (listed_view rest))))
    counted

pub joined_end : (ts : semantics.Terms) → semantics.joined ts semantics.end ≡ ts
joined_end semantics.end = refl
joined_end (semantics.more t ts) = ap (semantics.more t) (joined_end ts)

-- the number after them
pub counted_more : (n m : ℕ) (x : Term) (rest : List Term)
    → m ≡ n + length (run.literals (term_view x))
    → m + length (run.literals_of (listed_view rest)) ≡ n + length (run.literals_of (listed_view (x ∷ rest)))
counted_more n m x rest e =
    ap (λ k. k + length (run.literals_of (listed_view rest))) e
    ∙ add_assoc n (length (run.literals (term_view x))) (length (run.literals_of (listed_view rest)))
    ∙ ap (λ k. n + k) (sym (length-append (run.literals (term_view x)) (run.literals_of (listed_view rest))))

-- one turn of the loop, and its end
pub placed_step : (at : ℕ → Addr) (items : List Term) (i : ℕ) (x : Term)
    → i < length items
    → x ≡ get_or items i x
    → (front now : List Term) (t : Term) (n m : ℕ)
    → now ≡ front ++ t ∷ []
    → term_view t ≡ run.with_literals at n (term_view x)
    → m ≡ n + length (run.literals (term_view x))
    → semantics.joined (listed_view now) (run.all_with_literals at m (listed_view (drop (i + 1) items)))
    ≡ semantics.joined (listed_view front) (run.all_with_literals at n (listed_view (drop i items)))
placed_step at items i x h is front now t n m e placed counted =
    placed_more at front now t x (drop (i + 1) items) n m (ap (map term_view) e ∙ map-append term_view front (t ∷ []))
    placed counted
    ∙ ap (λ y. semantics.joined (listed_view front) (run.all_with_literals at n (listed_view (y ∷ drop (i + 1) items))))
    is
    ∙ ap (λ xs. semantics.joined (listed_view front) (run.all_with_literals at n (listed_view xs)))
    (sym (drop_more items i x h))

pub counted_step : (items : List Term) (i : ℕ) (x : Term)
    → i < length items
    → x ≡ get_or items i x
    → (n m : ℕ)
    → m ≡ n + length (run.literals (term_view x))
    → m + length (run.literals_of (listed_view (drop (i + 1) items))) ≡ n + length
    (run.literals_of (listed_view (drop i items)))
counted_step items i x h is n m e =
    counted_more n m x (drop (i + 1) items) e
    ∙ ap (λ y. n + length (run.literals_of (listed_view (y ∷ drop (i + 1) items)))) is
    ∙ ap (λ xs. n + length (run.literals_of (listed_view xs))) (sym (drop_more items i x h))

pub placed_all : (at : ℕ → Addr) (items : List Term) (i : ℕ) (front : List Term) (n m : ℕ)
    → length items ≤ i
    → semantics.joined (listed_view front) (run.all_with_literals at m (listed_view (drop i items)))
    ≡ run.all_with_literals at n (listed_view items)
    → listed_view front ≡ run.all_with_literals at n (listed_view items)
placed_all at items i front n m h e =
    sym (joined_end (listed_view front))
    ∙ ap (λ xs. semantics.joined (listed_view front) (run.all_with_literals at m (listed_view xs)))
    (sym (drop_all i items h))
    ∙ e
