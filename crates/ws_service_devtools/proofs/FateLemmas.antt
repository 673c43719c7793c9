-- What becomes of a text, in the words of a link.
use Rattle.std.proofs.Common.{◌≡◌, inl, inr, ℕ, List, Bool, true, false, Option, None, String, Global, string_bytes, refl, sym, ap, subst}
use Rattle.std.proofs.lemmas.Bool.{false≢true}
use Rattle.serde_json.specs.Data.{Data}
use Rattle.serde_json.specs.Read.{read}
use Rattle.ws_service_devtools.specs.Fates.{IsFate}
use Rattle.ws_service_devtools.specs.Links.{IsHandedIn}
use Rattle.ws_service_devtools.specs.Texts.{ClearsFlag, IsAnswered, IsPlain}
use Rattle.ws_service_devtools.specs.declared.text.Fate.{Fate}
use Rattle.ws_service_devtools.specs.declared.text.Fate.TheVariants.{HandedIn, Changed, TooBig, Answered}

abbrev is_handed_in : Fate → Bool
is_handed_in HandedIn = true
is_handed_in (Changed other) = false
is_handed_in TooBig = false
is_handed_in (Answered id) = false

plain_at : (o : Option Data) → o ≡ None → IsPlain o
plain_at o none = subst IsPlain (sym none) tt

pub comes : (text : List ℕ) → IsFate text HandedIn → IsHandedIn text text
comes text (inl (e, none)) = inl (refl, plain_at (read text) none)
comes text (inr (d, reads, f)) = inl (refl, subst IsPlain (sym reads) f)

pub changed : (text : List ℕ) (other : String Global) → IsFate text (Changed other) → IsHandedIn text (string_bytes other)
changed text other (inl (e, none)) = absurd (false≢true (ap is_handed_in e))
changed text other (inr (d, reads, (unanswered, clears, (e, without, again), fits))) = inr record {
  clears = record { value = d; reads = reads; unanswered = unanswered; clears = clears };
  without = e;
  reads = again;
  is = without;
  fits = fits;
}

pub too_big : (text : List ℕ) → IsFate text TooBig → ClearsFlag text
too_big text (inl (e, none)) = absurd (false≢true (ap is_handed_in e))
too_big text (inr (d, reads, f)) = record { value = d; reads = reads; unanswered = f.0; clears = f.1 }

pub answered : (text : List ℕ) (id : ℕ) → IsFate text (Answered id) → IsAnswered text id
answered text id (inl (e, none)) = absurd (false≢true (ap is_handed_in e))
answered text id (inr (d, reads, f)) = record { value = d; reads = reads; is = f }

-- by the fate as it was read
pub read_as : (text seen : List ℕ) (fate was : Fate) → seen ≡ text → was ≡ fate → IsFate seen was → IsFate text fate
read_as text seen fate was e f h = subst (λ t. IsFate t fate) e (subst (IsFate seen) f h)
