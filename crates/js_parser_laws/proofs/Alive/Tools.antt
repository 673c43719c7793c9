-- What lives: where a reader stops, the tokens before begin a well-formed tree. Tools to make such trees from those of
-- the parts.
use Rattle.std.proofs.Common.{◌≡◌, ℕ, Bool, true, false, cond, List, [], ◌∷◌, ◌++◌, length, Option, Some, Ok, Err, refl, sym, ap, subst, ◌∙◌, ◌⊎◌, inl, inr, append_assoc}
use Rattle.std.proofs.lemmas.List.{append-nil}
use Rattle.js_lexer.specs.declared.token.TokenKind.{TokenKind}
use Rattle.js_lexer.specs.declared.token.TokenKind.TheVariants as kinds
use Rattle.js_lexer.specs.Written.{WrittenToken}
use Rattle.js_parser_language.specs.Tokens.{Token, FlatToken, token, beside, semicolon, trailing_comma, StatementEnd, after_expression, after_word, after_do, plain, braces, update, absent, head_of, Matches}
use Rattle.js_parser_readers.specs.Reading.{Fault, stuck, deep, Read, ◌>>=◌}
use Rattle.js_parser_laws.specs.Exact.{written_view}
use Rattle.js_parser_laws.proofs.MarkLemmas.{joins}
use Rattle.js_parser_laws.proofs.TokenLemmas.{faulty}
use Rattle.js_parser_laws.proofs.SpelledKindLemmas.{text_of_kind, is_free}

-- ---- faults

pub bind_err : {A B : Type 0} (r : Read A) (f : A × List Token → Read B) (e : Fault)
    → (r >>= f) ≡ Err e
    → (r ≡ Err e) ⊎ ((x : A × List Token) × (r ≡ Ok x) × (f x ≡ Err e))
bind_err (Ok x) f e h = inr (x, refl, h)
bind_err (Err d) f e h = let same : d ≡ e = cc in inl (ap (λ d. Err d) same)

pub cond_err : {A : Type 0} (b : Bool) (p q : Read A) (e : Fault)
    → cond b p q ≡ Err e
    → ((b ≡ true) × (p ≡ Err e)) ⊎ ((b ≡ false) × (q ≡ Err e))
cond_err true p q e h = inl (refl, h)
cond_err false p q e h = inr (refl, h)

pub fault_is : {A : Type 0} (d e : Fault) → faulty {A = A} d ≡ faulty e → d ≡ e
fault_is d e h = cc

-- a fault says how many tokens are left
abbrev pub Counts : Fault → List Token → Type 0
Counts (stuck k) left = length left ≡ k
Counts (deep k) left = length left ≡ k

pub stuck_counts : {A : Type 0} (left : List Token) (e : Fault)
    → faulty {A = A} (stuck (length left)) ≡ faulty e
    → Counts e left
stuck_counts {A} left e h = subst (λ (e : Fault). Counts e left) (fault_is {A = A} (stuck (length left)) e h) refl

pub deep_counts : {A : Type 0} (left : List Token) (e : Fault)
    → faulty {A = A} (deep (length left)) ≡ faulty e
    → Counts e left
deep_counts {A} left e h = subst (λ (e : Fault). Counts e left) (fault_is {A = A} (deep (length left)) e h) refl

-- ---- tokens that are added

-- a token that is added: of a kind on a new line, of a kind on the line of the one before it, or a name on a new line
pub data Added : Type 0 where
  a_token : TokenKind → Added
  a_near_token : TokenKind → Added
  a_name_token : (n : List ℕ) → is_free n ≡ true → Added

-- as it is written
abbrev pub as_written : Added → WrittenToken
as_written (a_token k) = record { kind = k; text = text_of_kind k; newline_before = true }
as_written (a_near_token k) = record { kind = k; text = text_of_kind k; newline_before = false }
as_written (a_name_token n f) = record { kind = kinds.Name; text = n; newline_before = true }

-- as the grammar sees it
abbrev pub as_token : Added → Token
as_token a = written_view (as_written a)

abbrev pub added : List Added → List Token
added [] = []
added (a ∷ more) = as_token a ∷ added more

pub added_append : (front back : List Added) → added (front ++ back) ≡ added front ++ added back
added_append [] back = refl
added_append (a ∷ front) back = ap (λ (us : List Token). as_token a ∷ us) (added_append front back)

-- what the first token of an added text may be: anything, nothing, the number 0 on a new line, a token of a kind on a
-- new line
abbrev pub Anything : Option Token → Type 0
Anything o = Unit {0}

abbrev pub Nothing : Option Token → Type 0
Nothing o = ⊥

abbrev pub IsAdded : TokenKind → Option Token → Type 0
IsAdded k o = o ≡ Some (as_token (a_token k))

abbrev pub IsZero : Option Token → Type 0
IsZero o = IsAdded kinds.Number o

-- the tokens begin as these, or with an added token
abbrev pub Starts : (Option Token → Type 0) → List Token → List Token → Type 0
Starts First ts us = (head_of us ≡ head_of ts) ⊎ First (head_of us)

-- each semicolon that may be absent before a token may be absent before the other
abbrev pub Softer : List Token → List Token → Type 0
Softer ts us = (end : StatementEnd) → absent end (head_of ts) ≡ true → absent end (head_of us) ≡ true

zero_soft : (end : StatementEnd) → absent end (Some (as_token (a_token kinds.Number))) ≡ true
zero_soft (after_expression plain) = refl
zero_soft (after_expression braces) = refl
zero_soft (after_expression update) = refl
zero_soft after_word = refl
zero_soft after_do = refl

while_soft : (end : StatementEnd) → absent end (Some (as_token (a_token kinds.While))) ≡ true
while_soft (after_expression plain) = refl
while_soft (after_expression braces) = refl
while_soft (after_expression update) = refl
while_soft after_word = refl
while_soft after_do = refl

brace_soft : (end : StatementEnd) → absent end (Some (as_token (a_token kinds.RightBrace))) ≡ true
brace_soft (after_expression plain) = refl
brace_soft (after_expression braces) = refl
brace_soft (after_expression update) = refl
brace_soft after_word = refl
brace_soft after_do = refl

pub softer_by : (First : Option Token → Type 0)
    → ((o : Option Token) → First o → (end : StatementEnd) → absent end o ≡ true)
    → (ts us : List Token)
    → Starts First ts us
    → Softer ts us
softer_by First soft ts us (inl same) = λ end h. ap (λ (o : Option Token). absent end o) same ∙ h
softer_by First soft ts us (inr first) = λ end h. soft (head_of us) first end

pub zero_softer : (ts us : List Token) → Starts IsZero ts us → Softer ts us
zero_softer ts us s = softer_by IsZero (λ o is end. ap (λ (o : Option Token). absent end o) is ∙ zero_soft end) ts us s

pub while_softer : (ts us : List Token) → Starts (IsAdded kinds.While) ts us → Softer ts us
while_softer ts us s =
    softer_by (IsAdded kinds.While) (λ o is end. ap (λ (o : Option Token). absent end o) is ∙ while_soft end) ts us s

pub nothing_softer : (ts us : List Token) → Starts Nothing ts us → Softer ts us
nothing_softer ts us s = softer_by Nothing (λ o is. absurd is) ts us s

pub brace_softer : (ts us : List Token) → Softer ts (as_token (a_token kinds.RightBrace) ∷ us)
brace_softer ts us = λ end h. brace_soft end

-- ---- marks before other tokens

-- what was matched, with the tokens behind it replaced
pub record Softens (ms : List FlatToken) (ts left : List Token) : Type 0 where
  pub before : List Token
  pub parts : ts ≡ before ++ left
  pub other : (us : List Token) → Softer left us → Matches ms (before ++ us) us

still : (before left us : List Token) → Softer left us → Softer (before ++ left) (before ++ us)
still [] left us s = s
still (t ∷ before) left us s = λ end h. h

pub softens : (ms : List FlatToken) (ts left : List Token) → Matches ms ts left → Softens ms ts left
softens [] ts left m = record { before = []; parts = m; other = λ us s. refl }
softens (token k ∷ ms) [] left m = absurd m.0
softens (token k ∷ ms) (t ∷ ts) left m =
    let l = softens ms ts left m.1 in
    record {
      before = t ∷ l.before;
      parts = ap (λ (ts : List Token). t ∷ ts) l.parts;
      other = λ us s.
          (m.0, l.other us s);
    }
softens (beside k ∷ ms) [] left m = absurd m.0
softens (beside k ∷ ms) (t ∷ ts) left m =
    let l = softens ms ts left m.2 in
    record {
      before = t ∷ l.before;
      parts = ap (λ (ts : List Token). t ∷ ts) l.parts;
      other = λ us s.
          (m.0, m.1, l.other us s);
    }
softens (semicolon end ∷ ms) [] left (inl m) = absurd m.0
softens (semicolon end ∷ ms) (t ∷ ts) left (inl m) =
    let l = softens ms ts left m.1 in
    record {
      before = t ∷ l.before;
      parts = ap (λ (ts : List Token). t ∷ ts) l.parts;
      other = λ us s. inl
          (m.0, l.other us s);
    }
softens (semicolon end ∷ ms) ts left (inr m) =
    let l = softens ms ts left m.1 in
    record {
      before = l.before;
      parts = l.parts;
      other = λ us s. inr (
        still l.before left us s end (ap (λ (ts : List Token). absent end (head_of ts)) (sym l.parts) ∙ m.0),
        l.other us s,
      );
    }
softens (trailing_comma ∷ ms) [] left (inl m) = absurd m.0
softens (trailing_comma ∷ ms) (t ∷ ts) left (inl m) =
    let l = softens ms ts left m.1 in
    record {
      before = t ∷ l.before;
      parts = ap (λ (ts : List Token). t ∷ ts) l.parts;
      other = λ us s. inl
          (m.0, l.other us s);
    }
softens (trailing_comma ∷ ms) ts left (inr m) =
    let l = softens ms ts left m in
    record { before = l.before; parts = l.parts; other = λ us s. inr (l.other us s) }

-- marks that end in a token, whatever comes behind it
abbrev pub is_firm : List FlatToken → Bool
is_firm [] = false
is_firm (token s ∷ []) = true
is_firm (beside s ∷ []) = true
is_firm (semicolon end ∷ []) = false
is_firm (trailing_comma ∷ []) = false
is_firm (m ∷ n ∷ ms) = is_firm (n ∷ ms)

firm_cons : (m n : FlatToken) (ms : List FlatToken) → is_firm (n ∷ ms) ≡ true → is_firm (m ∷ n ∷ ms) ≡ true
firm_cons (token s) n ms f = f
firm_cons (beside s) n ms f = f
firm_cons (semicolon end) n ms f = f
firm_cons trailing_comma n ms f = f

pub firm_behind : (m : FlatToken) (ms : List FlatToken) → is_firm ms ≡ true → is_firm (m ∷ ms) ≡ true
firm_behind m [] f = absurd cc
firm_behind m (n ∷ ms) f = firm_cons m n ms f

pub firm_append : (ms ns : List FlatToken) → is_firm ns ≡ true → is_firm (ms ++ ns) ≡ true
firm_append [] ns f = f
firm_append (m ∷ ms) ns f = firm_behind m (ms ++ ns) (firm_append ms ns f)

-- such marks are some tokens, and anything may come behind them
pub record Firmly (ms : List FlatToken) (ts left : List Token) : Type 0 where
  pub next : Token
  pub before : List Token
  pub parts : ts ≡ (next ∷ before) ++ left
  pub other : (us : List Token) → Matches ms ((next ∷ before) ++ us) us

ends_firm : (s : FlatToken)
    → is_firm (s ∷ []) ≡ true
    → (ts left : List Token)
    → Matches (s ∷ []) ts left
    → Firmly (s ∷ []) ts left
ends_firm (token s) f [] left m = absurd m.0
ends_firm (token s) f (t ∷ ts) left m =
    record { next = t; before = []; parts = ap (λ (ts : List Token). t ∷ ts) m.1; other = λ us. (m.0, refl) }
ends_firm (beside s) f [] left m = absurd m.0
ends_firm (beside s) f (t ∷ ts) left m =
    record { next = t; before = []; parts = ap (λ (ts : List Token). t ∷ ts) m.2; other = λ us. (m.0, m.1, refl) }
ends_firm (semicolon end) f ts left m = absurd cc
ends_firm trailing_comma f ts left m = absurd cc

firm_tail : (m n : FlatToken) (ms : List FlatToken) → is_firm (m ∷ n ∷ ms) ≡ true → is_firm (n ∷ ms) ≡ true
firm_tail (token s) n ms f = f
firm_tail (beside s) n ms f = f
firm_tail (semicolon end) n ms f = f
firm_tail trailing_comma n ms f = f

-- one mark before such marks
more_firm : (m : FlatToken) (ms : List FlatToken) (ts left : List Token)
    → ((us : List Token) → Matches ms us left → Firmly ms us left)
    → Matches (m ∷ ms) ts left
    → Firmly (m ∷ ms) ts left
more_firm (token s) ms [] left go m = absurd m.0
more_firm (token s) ms (t ∷ ts) left go m =
    let l = go ts m.1 in
    record {
      next = t;
      before = l.next ∷ l.before;
      parts = ap (λ (ts : List Token). t ∷ ts) l.parts;
      other = λ us.
          (m.0, l.other us);
    }
more_firm (beside s) ms [] left go m = absurd m.0
more_firm (beside s) ms (t ∷ ts) left go m =
    let l = go ts m.2 in
    record {
      next = t;
      before = l.next ∷ l.before;
      parts = ap (λ (ts : List Token). t ∷ ts) l.parts;
      other = λ us.
          (m.0, m.1, l.other us);
    }
more_firm (semicolon end) ms [] left go (inl m) = absurd m.0
more_firm (semicolon end) ms (t ∷ ts) left go (inl m) =
    let l = go ts m.1 in
    record {
      next = t;
      before = l.next ∷ l.before;
      parts = ap (λ (ts : List Token). t ∷ ts) l.parts;
      other = λ us. inl
          (m.0, l.other us);
    }
more_firm (semicolon end) ms ts left go (inr m) =
    let l = go ts m.1 in
    record {
      next = l.next;
      before = l.before;
      parts = l.parts;
      other = λ us. inr
          (ap (λ (ts : List Token). absent end (head_of ts)) (sym l.parts) ∙ m.0, l.other us);
    }
more_firm trailing_comma ms [] left go (inl m) = absurd m.0
more_firm trailing_comma ms (t ∷ ts) left go (inl m) =
    let l = go ts m.1 in
    record {
      next = t;
      before = l.next ∷ l.before;
      parts = ap (λ (ts : List Token). t ∷ ts) l.parts;
      other = λ us. inl
          (m.0, l.other us);
    }
more_firm trailing_comma ms ts left go (inr m) =
    let l = go ts m in
    record { next = l.next; before = l.before; parts = l.parts; other = λ us. inr (l.other us) }

pub firmly : (ms : List FlatToken) → is_firm ms ≡ true → (ts left : List Token) → Matches ms ts left → Firmly ms ts left
firmly [] f ts left m = absurd cc
firmly (m ∷ []) f ts left h = ends_firm m f ts left h
firmly (m ∷ n ∷ ms) f ts left h =
    more_firm m (n ∷ ms) ts left (λ us k. firmly (n ∷ ms) (firm_tail m n ms f) us left k) h

-- ---- what lives

-- The tokens before the fault, with others, are those of a good tree. Where none were read, the others begin so.
pub record Lives {A : Type 0} (First : Option Token → Type 0) (flat_of : A → List FlatToken) (Good : A → Type 0)
    (ts : List Token) (e : Fault) : Type 0 where
  pub before : List Token
  pub left : List Token
  pub parts : ts ≡ before ++ left
  pub counted : Counts e left
  pub tree : A
  pub good : Good tree
  pub rest : List Added
  pub spelled : (r : List Token) → Matches (flat_of tree) (before ++ (added rest ++ r)) r
  pub starts : (r : List Token) → Starts First ts (before ++ (added rest ++ r))

-- tokens that begin with a token of theirs
pub same_start : (First : Option Token → Type 0) (t : Token) (ts before left us : List Token)
    → ts ≡ (t ∷ before) ++ left
    → Starts First ts ((t ∷ before) ++ us)
same_start First t ts before left us parts = inl (sym (ap (λ (ts : List Token). head_of ts) parts))

-- what is read later begins as what is read first
pub start_behind : (First : Option Token → Type 0) (before ts left us : List Token)
    → ts ≡ before ++ left
    → Starts First left us
    → Starts First ts (before ++ us)
start_behind First [] ts left us parts s = subst (λ (ts : List Token). Starts First ts us) (sym parts) s
start_behind First (t ∷ before) ts left us parts s = same_start First t ts before left us parts

-- nothing was read
pub fills : {A : Type 0} {First : Option Token → Type 0} {flat_of : A → List FlatToken} {Good : A → Type 0} (ts : List Token)
    (e : Fault)
    → Counts e ts
    → (tree : A)
    → Good tree
    → (rest : List Added)
    → ((r : List Token) → Matches (flat_of tree) (added rest ++ r) r)
    → ((r : List Token) → First (head_of (added rest ++ r)))
    → Lives First flat_of Good ts e
fills ts e c tree good rest spelled first =
    record {
      before = [];
      left = ts;
      parts = refl;
      counted = c;
      tree = tree;
      good = good;
      rest = rest;
      spelled = spelled;
      starts = λ r. inr
          (first r);
    }

-- The tree of a part, in a tree with tokens before the part and tokens behind it.
pub grows : {A B : Type 0} {First Other : Option Token
    → Type 0} {flat_of : A
    → List FlatToken} {Good : A
    → Type 0} {flat_as : B
    → List FlatToken} {Fine : B
    → Type 0} {mid : List Token} {e : Fault}
    → (l : Lives First flat_of Good mid e)
    → (ts front : List Token)
    → ts ≡ front ++ mid
    → (tree : B)
    → Fine tree
    → (more : List Added)
    → ((us r : List Token)
    → Starts First mid us
    → Matches (flat_of l.tree) us (added more ++ r)
    → Matches (flat_as tree) (front ++ us) r)
    → ((us : List Token) → Starts First mid us → Starts Other ts (front ++ us))
    → Lives Other flat_as Fine ts e
grows {A} {B} {First} {Other} {flat_of} {Good} {flat_as} {Fine} {mid} {e} l ts front parts tree fine more spelled
    starts =
    let whole : (r : List Token)
    → (front ++ l.before) ++ (added (l.rest ++ more) ++ r) ≡ front ++ (l.before ++ (added l.rest ++ (added more ++ r)))
    = λ r. append_assoc front l.before (added (l.rest ++ more) ++ r)
    ∙ ap (λ (us : List Token). front ++ (l.before ++ us))
    (ap (λ (us : List Token). us ++ r) (added_append l.rest more) ∙ append_assoc (added l.rest) (added more) r) in
    record {
      before = front ++ l.before;
      left = l.left;
      parts = parts ∙ ap (λ (us : List Token). front ++ us) l.parts ∙ sym (append_assoc front l.before l.left);
      counted = l.counted;
      tree = tree;
      good = fine;
      rest = l.rest ++ more;
      spelled =
          λ r. subst (λ (us : List Token). Matches (flat_as tree) us r) (sym (whole r))
          (spelled (l.before ++ (added l.rest ++ (added more ++ r))) r (l.starts (added more ++ r))
          (l.spelled (added more ++ r)));
      starts =
          λ r. subst (λ (us : List Token). Starts Other ts us) (sym (whole r))
          (starts (l.before ++ (added l.rest ++ (added more ++ r))) (l.starts (added more ++ r)));
    }

-- what may come first may also be more
pub widens : {A : Type 0} {First Other : Option Token
    → Type 0} {flat_of : A
    → List FlatToken} {Good : A
    → Type 0} {ts : List Token} {e : Fault}
    → ((o : Option Token) → First o → Other o)
    → Lives First flat_of Good ts e
    → Lives Other flat_of Good ts e
widens {A} {First} {Other} {flat_of} {Good} {ts} {e} more l = record {
  before = l.before;
  left = l.left;
  parts = l.parts;
  counted = l.counted;
  tree = l.tree;
  good = l.good;
  rest = l.rest;
  spelled = l.spelled;
  starts = λ r. wider (head_of (l.before ++ (added l.rest ++ r))) (l.starts r);
}
  where
    wider : (o : Option Token) → (o ≡ head_of ts) ⊎ First o → (o ≡ head_of ts) ⊎ Other o
    wider o (inl s) = inl s
    wider o (inr s) = inr (more o s)

pub from_nothing : {A : Type 0} {Other : Option Token
    → Type 0} {flat_of : A
    → List FlatToken} {Good : A
    → Type 0} {ts : List Token} {e : Fault}
    → Lives Nothing flat_of Good ts e
    → Lives Other flat_of Good ts e
from_nothing l = widens (λ o n. absurd n) l

-- the tree of a part at the front, with marks behind it
pub ends_in : {A B : Type 0} {First : Option Token
    → Type 0} {flat_of : A
    → List FlatToken} {Good : A
    → Type 0} {flat_as : B
    → List FlatToken} {Fine : B
    → Type 0} {ts : List Token} {e : Fault}
    → (l : Lives First flat_of Good ts e)
    → (tree : B)
    → Fine tree
    → (ns : List FlatToken) (more : List Added)
    → ((r : List Token) → Matches ns (added more ++ r) r)
    → flat_of l.tree ++ ns ≡ flat_as tree
    → Lives First flat_as Fine ts e
ends_in {A} {B} {First} {flat_of} {Good} {flat_as} {Fine} {ts} {e} l tree fine ns more spelled same =
    grows l ts [] refl tree fine more
    (λ us r s k. subst (λ (ms : List FlatToken). Matches ms us r) same
    (joins (flat_of l.tree) ns us (added more ++ r) r k (spelled r)))
    (λ us s. s)

-- the tree of a part behind marks that end in a token, with marks behind it
pub around : {A B : Type 0} {First : Option Token
    → Type 0} {flat_of : A
    → List FlatToken} {Good : A
    → Type 0} {flat_as : B
    → List FlatToken} {Fine : B
    → Type 0} {mid : List Token} {e : Fault}
    → (l : Lives First flat_of Good mid e)
    → (ms : List FlatToken)
    → is_firm ms ≡ true
    → (ts : List Token)
    → Matches ms ts mid
    → (tree : B)
    → Fine tree
    → (ns : List FlatToken) (more : List Added)
    → ((r : List Token) → Matches ns (added more ++ r) r)
    → ms ++ (flat_of l.tree ++ ns) ≡ flat_as tree → Lives Nothing flat_as Fine ts e
around {A} {B} {First} {flat_of} {Good} {flat_as} {Fine} {mid} {e} l ms firm ts m tree fine ns more spelled same =
    let f = firmly ms firm ts mid m in
    grows l ts (f.next ∷ f.before) f.parts tree fine more
    (λ us r s k. subst (λ (ms : List FlatToken). Matches ms ((f.next ∷ f.before) ++ us) r) same
    (joins ms (flat_of l.tree ++ ns) ((f.next ∷ f.before) ++ us) us r (f.other us)
    (joins (flat_of l.tree) ns us (added more ++ r) r k (spelled r))))
    (λ us s. same_start Nothing f.next ts f.before mid us f.parts)

-- the tree of a part behind marks that may end in an absent semicolon, with marks behind it
pub around_softly : {A B : Type 0} {First : Option Token
    → Type 0} {flat_of : A
    → List FlatToken} {Good : A
    → Type 0} {flat_as : B
    → List FlatToken} {Fine : B
    → Type 0} {mid : List Token} {e : Fault}
    → (l : Lives First flat_of Good mid e)
    → ((us : List Token) → Starts First mid us → Softer mid us)
    → (ms : List FlatToken)
    → (ts : List Token)
    → Matches ms ts mid
    → (tree : B)
    → Fine tree
    → (ns : List FlatToken) (more : List Added)
    → ((r : List Token) → Matches ns (added more ++ r) r)
    → ms ++ (flat_of l.tree ++ ns) ≡ flat_as tree → Lives First flat_as Fine ts e
around_softly {A} {B} {First} {flat_of} {Good} {flat_as} {Fine} {mid} {e} l soft ms ts m tree fine ns more spelled
    same =
    let f = softens ms ts mid m in
    grows l ts f.before f.parts tree fine more
    (λ us r s k. subst (λ (ms : List FlatToken). Matches ms (f.before ++ us) r) same
    (joins ms (flat_of l.tree ++ ns) (f.before ++ us) us r (f.other us (soft us s))
    (joins (flat_of l.tree) ns us (added more ++ r) r k (spelled r))))
    (λ us s. start_behind First f.before ts mid us f.parts s)

-- marks that end in a token were read, and the others are added
pub stopped : {B : Type 0} {flat_as : B → List FlatToken} {Fine : B → Type 0} (ms : List FlatToken)
    → is_firm ms ≡ true
    → (ts mid : List Token)
    → Matches ms ts mid
    → (e : Fault)
    → Counts e mid
    → (tree : B)
    → Fine tree
    → (ns : List FlatToken) (more : List Added)
    → ((r : List Token) → Matches ns (added more ++ r) r)
    → ms ++ ns ≡ flat_as tree → Lives Nothing flat_as Fine ts e
stopped {B} {flat_as} {Fine} ms firm ts mid m e c tree fine ns more spelled same =
    let f = firmly ms firm ts mid m in
    record {
      before = f.next ∷ f.before;
      left = mid;
      parts = f.parts;
      counted = c;
      tree = tree;
      good = fine;
      rest = more;
      spelled =
          λ r. subst (λ (ms : List FlatToken). Matches ms ((f.next ∷ f.before) ++ (added more ++ r)) r) same
          (joins ms ns ((f.next ∷ f.before) ++ (added more ++ r)) (added more ++ r) r (f.other (added more ++ r))
          (spelled r));
      starts = λ r. same_start Nothing f.next ts f.before mid (added more ++ r) f.parts;
    }

-- what comes first may be anything
pub anything : {A : Type 0} {First : Option Token
    → Type 0} {flat_of : A
    → List FlatToken} {Good : A
    → Type 0} {ts : List Token} {e : Fault}
    → Lives First flat_of Good ts e
    → Lives Anything flat_of Good ts e
anything l = widens (λ o n. tt) l

-- the same tokens as those of another tree
pub renamed : {A B : Type 0} {First : Option Token
    → Type 0} {flat_of : A
    → List FlatToken} {Good : A
    → Type 0} {flat_as : B
    → List FlatToken} {Fine : B
    → Type 0} {ts : List Token} {e : Fault}
    → (l : Lives First flat_of Good ts e)
    → (tree : B)
    → Fine tree
    → flat_of l.tree ≡ flat_as tree
    → Lives First flat_as Fine ts e
renamed {A} {B} {First} {flat_of} l tree fine same =
    ends_in l tree fine [] [] (λ r. refl) (append-nil (flat_of l.tree) ∙ same)

-- the tree of a part behind marks that end in a token
pub behind : {A B : Type 0} {First : Option Token
    → Type 0} {flat_of : A
    → List FlatToken} {Good : A
    → Type 0} {flat_as : B
    → List FlatToken} {Fine : B
    → Type 0} {mid : List Token} {e : Fault}
    → (l : Lives First flat_of Good mid e)
    → (ms : List FlatToken)
    → is_firm ms ≡ true
    → (ts : List Token)
    → Matches ms ts mid
    → (tree : B)
    → Fine tree
    → ms ++ flat_of l.tree ≡ flat_as tree
    → Lives Nothing flat_as Fine ts e
behind {A} {B} {First} {flat_of} l ms firm ts m tree fine same =
    around l ms firm ts m tree fine [] [] (λ r. refl)
    (ap (λ (ns : List FlatToken). ms ++ ns) (append-nil (flat_of l.tree)) ∙ same)

-- either nothing was read, or what lives begins as the tokens do
pub begun : {A : Type 0} {First : Option Token
    → Type 0} {flat_of : A
    → List FlatToken} {Good : A
    → Type 0} {ts : List Token} {e : Fault}
    → Lives First flat_of Good ts e
    → Counts e ts ⊎ Lives Nothing flat_of Good ts e
begun {A} {First} {flat_of} {Good} {ts} {e} l = by_before l.before refl
  where
    by_before : (before : List Token) → l.before ≡ before → Counts e ts ⊎ Lives Nothing flat_of Good ts e
    by_before [] is =
        inl (subst (λ (us : List Token). Counts e us) (sym (l.parts ∙ ap (λ (us : List Token). us ++ l.left) is))
        l.counted)
    by_before (t ∷ before) is =
        let parts : ts ≡ (t ∷ before) ++ l.left = l.parts ∙ ap (λ (us : List Token). us ++ l.left) is in
        inr (record {
          before = t ∷ before;
          left = l.left;
          parts = parts;
          counted = l.counted;
          tree = l.tree;
          good = l.good;
          rest = l.rest;
          spelled =
              λ r. subst (λ (us : List Token). Matches (flat_of l.tree) (us ++ (added l.rest ++ r)) r) is (l.spelled r);
          starts = λ r. same_start Nothing t ts before l.left (added l.rest ++ r) parts;
        })
