-- What a program does, and what a session does, as far as a host of many sessions asks for it.
use Rattle.std.specs.Prelude.{ℕ, List, Bool, Option}

-- A program of the type C, whose steps each tell a T and which pauses as a Q, and sessions of the type X.
pub record Protocol (C T Q X : Type 0) : Type 0 where
  -- the next step of a program; one that is over stays as it is
  pub next : C → C
  -- nothing is left to do
  pub is_over : C → Bool
  -- what its next step tells, where that is the first step of a program that waited for a client, or isn't
  pub tells : Bool → C → T
  -- the stop of this number, of a program that stands so
  pub pause : ℕ → C → Q
  -- a session of this number that was attached just now
  pub fresh : ℕ → X
  -- it has the debugger enabled
  pub is_enabled : X → Bool
  -- the texts that wait for its client, and whether so many may
  pub outbox : X → List (List ℕ)
  pub fits : X → Bool
  -- all of its texts were handed out
  pub emptied : X → X
  -- it was told a text, where the program is paused so, or isn't, and stands so; whether the text asks the program to
  -- go on, and to begin
  pub reply : Option Q → C → List ℕ → X → X
  pub resumes : Option Q → C → List ℕ → X → Bool
  pub wakes : Option Q → C → List ℕ → X → Bool
  -- the program went on
  pub resumed : X → X
  -- a step told this at a moment, but for a stop
  pub told : ℕ → T → X → X
  -- it names a stop behind a step that told this, or the start rule does
  pub names : T → X → Bool
  -- the program stopped behind such a step; the stop has this number
  pub stopped : ℕ → T → X → X
