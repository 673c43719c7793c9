-- The lines of a file are read one after another.
use Rattle.std.proofs.Common.{◌≡◌, ◌≤◌, ℕ, ◌+◌, List, [], ◌∷◌, ◌++◌, map, Some, None, Result, Ok, Err, refl, ap, sym, ◌∙◌, append_assoc, append-nil, arith}
use Rattle.std.proofs.lemmas.List.{map-append}
use Rattle.cdp_client.specs.declared.line.Line.{Line as Held}
use Rattle.cdp_client.specs.LineRead.{line_held}
use Rattle.cdp_client.specs.Lines.{Line, Send, Wait, led_by, line_of, next_id, read_from}

-- what is read where these lines were read before
abbrev pub before : List Line → Result (List Line) ℕ → Result (List Line) ℕ
before front (Ok lines) = Ok (front ++ lines)
before front (Err refused) = Err refused

-- texts are read up to these that are left, and the lines so far are these
pub record IsReadTo (texts rest : List (List ℕ)) (number id : ℕ) (lines : List Held) : Type 0 where
  pub whole : read_from 1 1 texts ≡ before (map line_held lines) (read_from number id rest)

before-none : (r : Result (List Line) ℕ) → r ≡ before [] r
before-none (Ok lines) = refl
before-none (Err refused) = refl

before-led : (front : List Line) (line : Line) (number : ℕ) (r : Result (List Line) ℕ)
    → before front (led_by (Some line) number r) ≡ before (front ++ line ∷ []) r
before-led front line number (Ok lines) = ap (λ all. Ok all) (sym (append_assoc front (line ∷ []) lines))
before-led front line number (Err refused) = refl

pub read-start : (texts : List (List ℕ)) → IsReadTo texts texts 1 1 []
read-start texts = record { whole = before-none (read_from 1 1 texts) }

-- one line more
pub read-next : (texts rest more : List (List ℕ)) (text : List ℕ) (number id : ℕ) (lines : List Held) (line : Held)
    → rest ≡ text ∷ more
    → Some (line_held line) ≡ line_of id text
    → IsReadTo texts rest number id lines
    → IsReadTo texts more (number + 1) (next_id id (Some (line_held line))) (lines ++ line ∷ [])
read-next texts rest more text number id lines line is read so_far = record {
  whole =
      so_far.whole
      ∙ ap (λ r. before (map line_held lines) (read_from number id r)) is
      ∙ ap (λ l. before (map line_held lines) (led_by l number (read_from (number + 1) (next_id id l) more))) (sym read)
      ∙ before-led (map line_held lines) (line_held line) number
      (read_from (number + 1) (next_id id (Some (line_held line))) more)
      ∙ ap (λ l. before l (read_from (number + 1) (next_id id (Some (line_held line))) more))
      (sym (map-append line_held lines (line ∷ [])));
}

-- a line that isn't of its form
pub read-refused : (texts rest more : List (List ℕ)) (text : List ℕ) (number id : ℕ) (lines : List Held)
    → rest ≡ text ∷ more
    → None ≡ line_of id text
    → IsReadTo texts rest number id lines
    → read_from 1 1 texts ≡ Err number
read-refused texts rest more text number id lines is none so_far =
    so_far.whole
    ∙ ap (λ r. before (map line_held lines) (read_from number id r)) is
    ∙ ap (λ l. before (map line_held lines) (led_by l number (read_from (number + 1) (next_id id l) more))) (sym none)

-- all lines
pub read-end : (texts rest : List (List ℕ)) (number id : ℕ) (lines : List Held)
    → rest ≡ []
    → IsReadTo texts rest number id lines
    → read_from 1 1 texts ≡ Ok (map line_held lines)
read-end texts rest number id lines is so_far =
    so_far.whole
    ∙ ap (λ r. before (map line_held lines) (read_from number id r)) is
    ∙ ap (λ l. Ok l) (append-nil (map line_held lines))

-- the next command's number is at most one more
pub next-near : (id : ℕ) (line : Line) → next_id id (Some line) ≤ id + 1
next-near id (Send command) = omega arith
next-near id (Wait method) = omega arith
