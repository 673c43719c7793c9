-- Terms as lists of words, each word behind those of its parts, by which two terms are told apart.
use Rattle.std.specs.Prelude.{◌≡◌, List, [], ◌∷◌, refl, fold}
use Rattle.std.proofs.Common.{ap, ◌∙◌}
use Rattle.std.specs.Coded.{Coded, code_by, coded_list, codes}
use Rattle.js_heap.specs.declared.value.Value.{Value}
use Rattle.js_heap.specs.declared.value.Value.TheVariants as values
use Rattle.js_semantics.specs.declared.form.Form.{Form}
use Rattle.js_semantics.specs.declared.form.SourceMark.{SourceMark}
use Rattle.js_semantics.specs.Terms.{Term, Terms, done, standing, part, end, more}

-- a word: what stands at a node of a term, or between the parts of a list
pub data Word : Type 0 where
  a_value : Value → Word
  a_throw : Value → SourceMark → Word
  a_form : Form → Word
  no_parts : Word
  a_part : Word

-- the words of a term and of a list of terms
abbrev mutual
  -- the words of a term, behind which others come
  pub term_words : Term → List Word → List Word
  term_words (done v) ws = a_value v ∷ ws
  term_words (standing v s) ws = a_throw v s ∷ ws
  term_words (part f now later) ws = terms_words now (terms_words later (a_form f ∷ ws))

  -- the words of a list of terms, after which others come
  pub terms_words : Terms → List Word → List Word
  terms_words end ws = no_parts ∷ ws
  terms_words (more t ts) ws = term_words t (terms_words ts (a_part ∷ ws))

-- what was read of some words: terms and lists of them, the last in front
pub data Read : Type 0 where
  nothing_read : Read
  term_read : Term → Read → Read
  terms_read : Terms → Read → Read

-- the lists that were read last are the parts of a form: those that are reduced, and those that are kept for later
abbrev pub read_form : Form → Read → Read
read_form f (terms_read later (terms_read now r)) = term_read (part f now later) r
read_form f r = r

-- the term that was read is a part in front of those
abbrev pub read_part : Read → Read
read_part (terms_read ts (term_read t r)) = terms_read (more t ts) r
read_part r = r

-- one word more is read
abbrev pub read_word : Read → Word → Read
read_word r (a_value v) = term_read (done v) r
read_word r (a_throw v s) = term_read (standing v s) r
read_word r (a_form f) = read_form f r
read_word r no_parts = terms_read end r
read_word r a_part = read_part r

-- the term that was read last
abbrev pub top_term : Read → Term
top_term (term_read t r) = t
top_term r = done values.Undefined

-- the words of a term are read as the term
abbrev mutual
  -- the words of a term are read as the term
  term_is_read : (t : Term) (ws : List Word) (r : Read)
      → fold read_word r (term_words t ws) ≡ fold read_word (term_read t r) ws
  term_is_read (done v) ws r = refl
  term_is_read (standing v s) ws r = refl
  term_is_read (part f now later) ws r =
      terms_are_read now (terms_words later (a_form f ∷ ws)) r ∙ terms_are_read later (a_form f ∷ ws) (terms_read now r)

  -- the words of a list of terms are read as the list
  terms_are_read : (ts : Terms) (ws : List Word) (r : Read)
      → fold read_word r (terms_words ts ws) ≡ fold read_word (terms_read ts r) ws
  terms_are_read end ws r = refl
  terms_are_read (more t ts) ws r =
      term_is_read t (terms_words ts (a_part ∷ ws)) r ∙ terms_are_read ts (a_part ∷ ws) (term_read t r)

-- words have codes
pub word_coded : Coded Word
word_coded = Prim.hlevel codes

-- a term is kept as its words
pub term_coded : Coded Term
term_coded =
    code_by (List Word) (coded_list word_coded) (λ t. term_words t []) (λ ws. top_term (fold read_word nothing_read ws))
    (λ t. ap top_term (term_is_read t [] nothing_read))
