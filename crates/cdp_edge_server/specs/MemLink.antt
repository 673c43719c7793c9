-- A link in memory, and what its calls do to it.
use Rattle.std.specs.Prelude.{Result, Ok, Err, ℕ, List, [], ◌∷◌, ◌++◌, Option, Some}
use Rattle.cdp_edge.specs.Outside.{one_more}
use Rattle.cdp_edge_server.specs.Coming.{Coming}
use Rattle.cdp_edge_server.specs.Contents.{Spoken}
use Rattle.cdp_edge_server.specs.Heard.{Heard, heard_of}
use Rattle.cdp_edge_server.specs.declared.link.Recv.{Recv}
use Rattle.cdp_edge_server.specs.declared.link.Recv.TheVariants as recv
use Rattle.cdp_edge_server.specs.declared.link.LinkFault.{LinkFault}
use Rattle.cdp_edge_server.specs.declared.link.LinkFault.TheVariants.{Failed, Memory}

-- what is to come, the answers so far, the texts sent, the code of the last close, how often it was called and how often it failed, and the numbers of the calls that fail, from 1
pub record MemoryLink : Type 0 where
  pub coming : List Coming
  pub answers : List Heard
  pub sent : List (List ℕ)
  pub closed : Option ℕ
  pub calls : ℕ
  pub faults : ℕ
  pub fails : List ℕ

-- the count of faults behind an answer
abbrev pub faults_behind : Recv → ℕ → ℕ
faults_behind (recv.Text text) old = old
faults_behind recv.Binary old = old
faults_behind recv.TooBig old = old
faults_behind recv.Quiet old = old
faults_behind recv.Closed old = old
faults_behind recv.Failed old = one_more old
faults_behind recv.Memory old = old

-- the link after this answer, with that left to come
abbrev pub after_recv : Recv → List Coming → MemoryLink → MemoryLink
after_recv answer left old = record old {
  coming = left;
  answers = old.answers ++ heard_of answer;
  calls = one_more old.calls;
  faults = faults_behind answer old.faults;
}

-- the link after a call that failed so
abbrev pub after_fault : LinkFault → MemoryLink → MemoryLink
after_fault Failed old = record old { calls = one_more old.calls; faults = one_more old.faults }
after_fault Memory old = record old { calls = one_more old.calls }

-- the link after it was sent a text with this answer
abbrev pub after_send : {A : Type 0} → Result A LinkFault → List ℕ → MemoryLink → MemoryLink
after_send (Ok done) text old = record old { sent = old.sent ++ text ∷ []; calls = one_more old.calls }
after_send (Err fault) text old = after_fault fault old

-- the link after it was closed with this answer
abbrev pub after_close : {A : Type 0} → Result A LinkFault → ℕ → MemoryLink → MemoryLink
after_close (Ok done) code old = record old { closed = Some code; calls = one_more old.calls }
after_close (Err fault) code old = after_fault fault old

-- what a link in memory tells
abbrev pub spoken_of : MemoryLink → Spoken
spoken_of link = record {
  faults = link.faults;
  answers = Some link.answers;
  sent = Some link.sent;
  closed = Some link.closed;
}
