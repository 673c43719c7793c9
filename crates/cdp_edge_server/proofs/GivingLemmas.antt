-- What a link in memory gives.
use Rattle.std.proofs.Common.{◌≡◌, ◌≢◌, ◌⊎◌, inl, inr, List, [], ◌∷◌, refl, ap, sym, ◌∙◌}
use Rattle.cdp_edge_server.specs.Coming.{Coming, IsBehindHolds, Gives, next_heard, behind_next}
use Rattle.cdp_edge_server.specs.Heard.{heard_of, IsNothing}
use Rattle.cdp_edge_server.specs.MemLink.{MemoryLink}
use Rattle.cdp_edge_server.specs.declared.link.Recv.{Recv}
use Rattle.cdp_edge_server.specs.declared.link.Recv.TheVariants.{Memory}

-- a link that gives nothing keeps what is to come
pub gives-nothing : (answer : Recv) (link seen : MemoryLink)
    → seen ≡ link → IsNothing answer → Gives answer link.coming seen.coming
gives-nothing answer link seen e none = (link.coming, ([], refl), inr (none, ap (λ l. l.coming) e))

-- a link gives what is next behind holds
pub gives-next : (answer : Recv) (link seen : MemoryLink) (now left : List Coming)
    → seen ≡ link → IsBehindHolds seen.coming now
    → (heard_of answer ≡ next_heard now ∷ []) ⊎ (answer ≡ Memory) → answer ≢ Memory → left ≡ behind_next now
    → Gives answer link.coming left
gives-next answer link seen now left e (waits, is) (inl heard) given rest =
    (now, (waits, sym (ap (λ l. l.coming) e) ∙ is), inl (heard, rest))
gives-next answer link seen now left e behind (inr memory) given rest = absurd (given memory)
