-- Where the readers of lists stop, the tokens before begin a list of good elements.
use Rattle.std.proofs.Common.{◌≡◌, ℕ, zero, suc, Bool, true, false, List, [], ◌∷◌, ◌++◌, Option, Ok, Err, refl, sym, ap, subst, ◌∙◌, inl, inr, append_assoc}
use Rattle.std.proofs.lemmas.List.{append-nil}
use Rattle.js_lexer.specs.declared.token.TokenKind.{TokenKind}
use Rattle.js_lexer.specs.declared.token.TokenKind.TheVariants as kinds
use Rattle.js_parser_language.specs.Tokens.{Token, fixed, FlatToken, token, trailing_comma, head_of, tail_of, IsNext, Matches}
use Rattle.js_parser_language.specs.Kinds.{is_kind}
use Rattle.js_parser_readers.specs.Reading.{Fault, Reader, ◌>>=◌, AfterElement, goes_on, ends, neither, after, go_after, elements_by, elements, others_by, others, ends_list, items_by, items}
use Rattle.js_parser_language.proofs.KindLemmas.{next_is}
use Rattle.js_parser_laws.proofs.MarkLemmas.{joins}
use Rattle.js_parser_laws.proofs.Sound.List.{behind_commas, up_to, in_a_row, AllGood, Reads, after_goes}
use Rattle.js_parser_laws.proofs.Alive.Tools.{bind_err, Counts, stuck_counts, deep_counts, a_token, Anything, Starts, Softer, is_firm, firmly, Lives, fills, grows, from_nothing, anything, ends_in, around, around_softly, stopped, firm_behind}

-- where an element's reader stops, an element lives that is good in the state
abbrev pub LivesOne : {S A : Type 0}
    → (Option Token → Type 0)
    → (S → Reader A)
    → (A → List FlatToken)
    → (S → A → Type 0)
    → Type 0
LivesOne {S} First one flat_of Good =
    (s : S) (ts : List Token) (e : Fault) → one s ts ≡ Err e → Lives First flat_of (Good s) ts e

-- good elements end in a token
abbrev pub AreFirm : {S A : Type 0} → (A → List FlatToken) → (S → A → Type 0) → Type 0
AreFirm {S} {A} flat_of Good = (s : S) (x : A) → Good s x → is_firm (flat_of x) ≡ true

-- ---- elements up to a token

-- the token that ends a list, behind its last element
closed : {A : Type 0} (flat_of : A → List FlatToken) (closer : TokenKind) (x : A)
    → flat_of x ++ (trailing_comma ∷ token (fixed closer) ∷ []) ≡ up_to flat_of closer (x ∷ [])
closed flat_of closer x =
    ap (λ (ms : List FlatToken). ms ++ (trailing_comma ∷ token (fixed closer) ∷ [])) (sym (append-nil (flat_of x)))

-- a comma with what is read behind it
behind_one : {A : Type 0} (flat_of : A → List FlatToken) (closer : TokenKind) (xs : List A) (t : Token) (us r : List Token)
    → t.kind ≡ kinds.Comma
    → Matches (up_to flat_of closer xs) us r
    → Matches (behind_commas flat_of xs ++ (trailing_comma ∷ token (fixed closer) ∷ [])) (t ∷ us) r
behind_one flat_of closer [] t us r c m = inl (c, m)
behind_one flat_of closer (x ∷ xs) t us r c m = (c, m)

-- an element, a comma, and what lives behind it
comma_lives : {A : Type 0} {Good : List A → Type 0} {Fine : List A → Type 0} (flat_of : A → List FlatToken)
    (closer : TokenKind) (x : A)
    → is_firm (flat_of x) ≡ true
    → (ts mid : List Token) (e : Fault)
    → Matches (flat_of x) ts mid
    → IsNext (fixed kinds.Comma) (head_of mid)
    → (l : Lives Anything (up_to flat_of closer) Good (tail_of mid) e)
    → Fine (x ∷ l.tree)
    → Lives Anything (up_to flat_of closer) Fine ts e
comma_lives flat_of closer x firm ts [] e m c l fine = absurd c
comma_lives {A} {Good} {Fine} flat_of closer x firm ts (t ∷ mid) e m c l fine =
    let f = firmly (flat_of x) firm ts (t ∷ mid) m in
    let ms = behind_commas flat_of l.tree ++ (trailing_comma ∷ token (fixed closer) ∷ []) in
    grows l ts ((f.next ∷ f.before) ++ (t ∷ [])) (f.parts ∙ sym (append_assoc (f.next ∷ f.before) (t ∷ []) mid))
    (x ∷ l.tree) fine []
    (λ us r s k. subst (λ (us : List Token). Matches (up_to flat_of closer (x ∷ l.tree)) us r)
    (sym (append_assoc (f.next ∷ f.before) (t ∷ []) us))
    (subst (λ (ms : List FlatToken). Matches ms ((f.next ∷ f.before) ++ (t ∷ us)) r)
    (sym (append_assoc (flat_of x) (behind_commas flat_of l.tree) (trailing_comma ∷ token (fixed closer) ∷ [])))
    (joins (flat_of x) ms ((f.next ∷ f.before) ++ (t ∷ us)) (t ∷ us) r (f.other (t ∷ us))
    (behind_one flat_of closer l.tree t us r c k))))
    (λ us s. inr tt)

go_after_lives : {A : Type 0} {Good : List A → Type 0} {Fine : List A → Type 0} (flat_of : A → List FlatToken)
    (closer : TokenKind) (x : A)
    → is_firm (flat_of x) ≡ true
    → ((xs : List A) → Good xs → Fine (x ∷ xs))
    → Good []
    → (go : Reader (List A))
    → ((ts : List Token) (e : Fault) → go ts ≡ Err e → Lives Anything (up_to flat_of closer) Good ts e)
    → (a : AfterElement) (ts mid : List Token)
    → after closer (head_of mid) ≡ a
    → Matches (flat_of x) ts mid
    → (e : Fault)
    → go_after go a mid ≡ Err e
    → Lives Anything (up_to flat_of closer) Fine ts e
go_after_lives flat_of closer x firm fine none go h goes_on ts mid f m e p =
    let l = h (tail_of mid) e p in
    comma_lives flat_of closer x firm ts mid e m (after_goes closer (head_of mid) f) l (fine l.tree l.good)
go_after_lives flat_of closer x firm fine none go h ends ts mid f m e p = absurd cc
go_after_lives {A} flat_of closer x firm fine none go h neither ts mid f m e p =
    from_nothing
    (stopped (flat_of x) firm ts mid m e (stuck_counts {A = List A} mid e p) (x ∷ []) (fine [] none)
    (trailing_comma ∷ token (fixed closer) ∷ []) (a_token closer ∷ []) (λ r. inr (refl, refl))
    (closed flat_of closer x))

elements_by_lives : {S A : Type 0} (First : Option Token → Type 0) (one : S → Reader A) (next : S → A → S)
    (flat_of : A → List FlatToken) (Good : S → A → Type 0)
    → Reads one flat_of Good
    → AreFirm flat_of Good
    → LivesOne First one flat_of Good
    → (closer : TokenKind) (go : S → Reader (List A))
    → ((s : S) (ts : List Token) (e : Fault)
    → go s ts ≡ Err e
    → Lives Anything (up_to flat_of closer) (AllGood next Good s) ts e)
    → (c : Bool) (s : S) (ts : List Token) (e : Fault)
    → elements_by one next go closer s c ts ≡ Err e
    → Lives Anything (up_to flat_of closer) (AllGood next Good s) ts e
elements_by_lives First one next flat_of Good reads firm lives closer go h true s ts e p = absurd cc
elements_by_lives {S} {A} First one next flat_of Good reads firm lives closer go h false s ts e p =
    elim (bind_err (one s ts)
    (λ x. go_after (go (next s x.0)) (after closer (head_of x.1)) x.1 >>= λ z. Ok (x.0 ∷ z.0, z.1)) e p) [
      | inl q ↦
          let l = lives s ts e q in
          let m : Lives First (up_to flat_of closer) (AllGood next Good s) ts e = ends_in l (l.tree ∷ []) (l.good, tt)
          (trailing_comma ∷ token (fixed closer) ∷ []) (a_token closer ∷ []) (λ r. inr (refl, refl))
          (closed flat_of closer l.tree) in
          anything m
      | inr q ↦ elim
          (bind_err (go_after (go (next s q.0.0)) (after closer (head_of q.0.1)) q.0.1) (λ z. Ok (q.0.0 ∷ z.0, z.1))
          e q.2) [
            | inl k ↦
                let t = reads s ts q.0 q.1 in
                go_after_lives {Good = AllGood next Good (next s q.0.0)} {Fine = AllGood next Good s} flat_of closer
                q.0.0
                (firm s q.0.0 t.1) (λ xs g. (t.1, g)) tt (go (next s q.0.0)) (h (next s q.0.0))
                (after closer (head_of q.0.1)) ts q.0.1 refl t.0 e k
            | inr k ↦ absurd cc
          ]
    ]

pub elements_lives : {S A : Type 0} (First : Option Token → Type 0) (one : S → Reader A) (next : S → A → S)
    (flat_of : A → List FlatToken) (Good : S → A → Type 0)
    → Reads one flat_of Good
    → AreFirm flat_of Good
    → LivesOne First one flat_of Good
    → (closer : TokenKind) (k : ℕ) (s : S) (ts : List Token) (e : Fault)
    → elements one next closer k s ts ≡ Err e
    → Lives Anything (up_to flat_of closer) (AllGood next Good s) ts e
unfolding elements
elements_lives {S} {A} First one next flat_of Good reads firm lives closer zero s ts e p =
    fills ts e (deep_counts {A = List A} ts e p) [] tt (a_token closer ∷ []) (λ r. (refl, refl)) (λ r. tt)
elements_lives First one next flat_of Good reads firm lives closer (suc k) s ts e p =
    elements_by_lives First one next flat_of Good reads firm lives closer (λ s r. elements one next closer k s r)
    (λ s r d. elements_lives First one next flat_of Good reads firm lives closer k s r d)
    (is_kind closer (head_of ts)) s ts e p

-- ---- further elements

others_by_lives : {S A : Type 0} (First : Option Token → Type 0) (one : S → Reader A) (next : S → A → S)
    (flat_of : A → List FlatToken) (Good : S → A → Type 0)
    → Reads one flat_of Good
    → AreFirm flat_of Good
    → LivesOne First one flat_of Good
    → (go : S → Reader (List A))
    → ((s : S) (ts : List Token) (e : Fault)
    → go s ts ≡ Err e
    → Lives Anything (behind_commas flat_of) (AllGood next Good s) ts e)
    → (c : Bool) (s : S) (ts : List Token)
    → is_kind kinds.Comma (head_of ts) ≡ c
    → (e : Fault)
    → others_by one next go s c ts ≡ Err e
    → Lives Anything (behind_commas flat_of) (AllGood next Good s) ts e
others_by_lives First one next flat_of Good reads firm lives go h false s ts f e p = absurd cc
others_by_lives {S} {A} First one next flat_of Good reads firm lives go h true s ts f e p =
    let c = next_is kinds.Comma (head_of ts) f in
    elim (bind_err (one s (tail_of ts)) (λ x. go (next s x.0) x.1 >>= λ z. Ok (x.0 ∷ z.0, z.1)) e p) [
      | inl q ↦
          let l = lives s (tail_of ts) e q in
          from_nothing
          (around l (token (fixed kinds.Comma) ∷ []) refl ts (c, refl) (l.tree ∷ []) (l.good, tt) [] [] (λ r. refl)
          refl)
      | inr q ↦ elim (bind_err (go (next s q.0.0) q.0.1) (λ z. Ok (q.0.0 ∷ z.0, z.1)) e q.2) [
        | inl k ↦
            let t = reads s (tail_of ts) q.0 q.1 in
            let l = h (next s q.0.0) q.0.1 e k in
            from_nothing
            (around l (token (fixed kinds.Comma) ∷ flat_of q.0.0)
            (firm_behind (token (fixed kinds.Comma)) (flat_of q.0.0) (firm s q.0.0 t.1)) ts (c, t.0)
            (q.0.0 ∷ l.tree) (t.1, l.good) [] [] (λ r. refl)
            (ap (λ (ms : List FlatToken). token (fixed kinds.Comma) ∷ (flat_of q.0.0 ++ ms))
            (append-nil (behind_commas flat_of l.tree))))
        | inr k ↦ absurd cc
      ]
    ]

pub others_lives : {S A : Type 0} (First : Option Token → Type 0) (one : S → Reader A) (next : S → A → S)
    (flat_of : A → List FlatToken) (Good : S → A → Type 0)
    → Reads one flat_of Good
    → AreFirm flat_of Good
    → LivesOne First one flat_of Good
    → (k : ℕ) (s : S) (ts : List Token) (e : Fault)
    → others one next k s ts ≡ Err e
    → Lives Anything (behind_commas flat_of) (AllGood next Good s) ts e
unfolding others
others_lives {S} {A} First one next flat_of Good reads firm lives zero s ts e p =
    fills ts e (deep_counts {A = List A} ts e p) [] tt [] (λ r. refl) (λ r. tt)
others_lives First one next flat_of Good reads firm lives (suc k) s ts e p =
    others_by_lives First one next flat_of Good reads firm lives (λ s r. others one next k s r)
    (λ s r d. others_lives First one next flat_of Good reads firm lives k s r d) (is_kind kinds.Comma (head_of ts))
    s ts refl e p

-- ---- elements up to what ends a list of statements

items_by_lives : {S A : Type 0} (First : Option Token → Type 0)
    → ((ts us : List Token) → Starts First ts us → Softer ts us)
    → (one : S → Reader A) (next : S → A → S) (flat_of : A → List FlatToken) (Good : S → A → Type 0)
    → Reads one flat_of Good
    → LivesOne First one flat_of Good
    → (go : S → Reader (List A))
    → ((s : S) (ts : List Token) (e : Fault)
    → go s ts ≡ Err e
    → Lives First (in_a_row flat_of) (AllGood next Good s) ts e)
    → (c : Bool) (s : S) (ts : List Token) (e : Fault)
    → items_by one next go s c ts ≡ Err e
    → Lives First (in_a_row flat_of) (AllGood next Good s) ts e
items_by_lives First soft one next flat_of Good reads lives go h true s ts e p = absurd cc
items_by_lives {S} {A} First soft one next flat_of Good reads lives go h false s ts e p =
    elim (bind_err (one s ts) (λ x. go (next s x.0) x.1 >>= λ z. Ok (x.0 ∷ z.0, z.1)) e p) [
      | inl q ↦
          let l = lives s ts e q in
          ends_in l (l.tree ∷ []) (l.good, tt) [] [] (λ r. refl) refl
      | inr q ↦ elim (bind_err (go (next s q.0.0) q.0.1) (λ z. Ok (q.0.0 ∷ z.0, z.1)) e q.2) [
        | inl k ↦
            let t = reads s ts q.0 q.1 in
            let l = h (next s q.0.0) q.0.1 e k in
            around_softly l (soft q.0.1) (flat_of q.0.0) ts t.0 (q.0.0 ∷ l.tree) (t.1, l.good) [] [] (λ r. refl)
            (ap (λ (ms : List FlatToken). flat_of q.0.0 ++ ms) (append-nil (in_a_row flat_of l.tree)))
        | inr k ↦ absurd cc
      ]
    ]

pub items_lives : {S A : Type 0} (First : Option Token → Type 0)
    → ((ts us : List Token) → Starts First ts us → Softer ts us)
    → (one : S → Reader A) (next : S → A → S) (flat_of : A → List FlatToken) (Good : S → A → Type 0)
    → Reads one flat_of Good
    → LivesOne First one flat_of Good
    → ((s : S) (ts : List Token) (e : Fault) → Counts e ts → Lives First flat_of (Good s) ts e)
    → (k : ℕ) (s : S) (ts : List Token) (e : Fault)
    → items one next k s ts ≡ Err e
    → Lives First (in_a_row flat_of) (AllGood next Good s) ts e
unfolding items
items_lives {S} {A} First soft one next flat_of Good reads lives fill zero s ts e p =
    let l = fill s ts e (deep_counts {A = List A} ts e p) in
    ends_in l (l.tree ∷ []) (l.good, tt) [] [] (λ r. refl) refl
items_lives First soft one next flat_of Good reads lives fill (suc k) s ts e p =
    items_by_lives First soft one next flat_of Good reads lives (λ s r. items one next k s r)
    (λ s r d. items_lives First soft one next flat_of Good reads lives fill k s r d) (ends_list (head_of ts))
    s ts e p
