-- Sources that a test finds to be the same.
use Rattle.std.proofs.Common.{◌≡◌, true, ap}
use Rattle.std.proofs.lemmas.Bool.{eqb-true}
use Rattle.js_heap.specs.declared.value.Addr.{Addr}
use Rattle.js_heap.specs.declared.value.Addr.TheVariants.{Base, Scratch}
use Rattle.js_heap.specs.Values.{same_address}
use Rattle.js_semantics.specs.Terms.{Source, script_source, kept_source}
use Rattle.js_semantics.specs.Functions.{same_source}

same_address-true : (a b : Addr) → same_address a b ≡ true → a ≡ b
same_address-true (Base m) (Base n) e = ap (λ i. Base i) (eqb-true m n e)
same_address-true (Scratch m) (Scratch n) e = ap (λ i. Scratch i) (eqb-true m n e)
same_address-true (Base m) (Scratch n) e = cc
same_address-true (Scratch m) (Base n) e = cc

pub same_source-true : (a b : Source) → same_source a b ≡ true → a ≡ b
same_source-true (script_source m) (script_source n) e = ap (λ i. script_source i) (eqb-true m n e)
same_source-true (kept_source a) (kept_source b) e = ap (λ x. kept_source x) (same_address-true a b e)
same_source-true (script_source m) (kept_source b) e = cc
same_source-true (kept_source a) (script_source n) e = cc
