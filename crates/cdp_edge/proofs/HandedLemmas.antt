-- What several reads handed in.
use Rattle.std.proofs.Common.{◌≡◌, ℕ, List, [], ◌∷◌, ◌++◌, Option, None, Some, Ok, sym, ap, subst, ◌∙◌, append_assoc, append-nil}
use Rattle.std.specs.declared.vec.Vec.{Vec}
use Rattle.std.specs.declared.alloc.Global.{Global}
use Rattle.cdp_edge.specs.Logs.{NamedFile, one_file, with_file}
use Rattle.cdp_edge.specs.Outside.{IfTold, Tells, AreOf, HandsIn, Given}

-- ---- what the files hold

are_of-append : (files xs ys : List NamedFile) → AreOf files xs → AreOf files ys → AreOf files (xs ++ ys)
are_of-append files [] ys front back = back
are_of-append files (x ∷ xs) ys front back = (front.0, are_of-append files xs ys front.1 back)

told_none : (told : Option (List NamedFile)) → IfTold told (λ files. AreOf files [])
told_none None = tt
told_none (Some files) = tt

told_one : (told : Option (List NamedFile)) (name : List ℕ) (bytes : Vec ℕ Global)
    → IfTold told (λ files. Tells (Ok bytes) name files)
    → IfTold told (λ files. AreOf files (one_file name bytes.items))
told_one None name bytes tells = tt
told_one (Some files) name bytes tells = (tells, tt)

told_append : (told : Option (List NamedFile)) (xs ys : List NamedFile)
    → IfTold told (λ files. AreOf files xs)
    → IfTold told (λ files. AreOf files ys)
    → IfTold told (λ files. AreOf files (xs ++ ys))
told_append None xs ys front back = tt
told_append (Some files) xs ys front back = are_of-append files xs ys front back

-- ---- what was handed in

-- nothing
pub hands_nothing : (told : Option (List NamedFile)) (old new : List NamedFile) → new ≡ old → HandsIn told old new []
hands_nothing told old new same = record { log = same ∙ sym (append-nil old); held = told_none told }

-- what one read gave
pub hands_one : (told : Option (List NamedFile)) (old new : List NamedFile) (name : List ℕ) (bytes : Vec ℕ Global)
    → IfTold told (λ files. Tells (Ok bytes) name files)
    → new ≡ with_file old name bytes.items
    → HandsIn told old new (one_file name bytes.items)
hands_one told old new name bytes tells log = record { log = log; held = told_one told name bytes tells }

-- and then more, by a shelf whose files are as they were
pub hands_more : (told later : Option (List NamedFile)) (old now new xs ys : List NamedFile)
    → later ≡ told
    → HandsIn told old now xs
    → HandsIn later now new ys
    → HandsIn told old new (xs ++ ys)
hands_more told later old now new xs ys same first next = record {
  log = next.log ∙ ap (λ files. files ++ ys) first.log ∙ append_assoc old xs ys;
  held =
      told_append told xs ys first.held
      (subst (λ (o : Option (List NamedFile)). IfTold o (λ files. AreOf files ys)) same next.held);
}

-- for a read
pub ruleset handing = (hands_nothing, hands_one)

-- ---- what holds of it

-- of what was handed in something holds, and so something else does
pub given_as : (Hands P Q : List NamedFile → Type 0) → ((files : List NamedFile) → P files → Q files) → Given Hands P
    → Given Hands Q
given_as Hands P Q so (given, hands, holds) = (given, hands, so given holds)

-- something holds of nothing, and nothing was handed in
pub given_nothing : (told : Option (List NamedFile)) (old new : List NamedFile) (P : List NamedFile → Type 0)
    → new ≡ old
    → P []
    → Given (HandsIn told old new) P
given_nothing told old new P same holds = ([], hands_nothing told old new same, holds)

-- what was handed in, and more behind it
pub given_more : (told later : Option (List NamedFile)) (old now new : List NamedFile) (P Q R : List NamedFile → Type 0)
    → later ≡ told
    → ((xs ys : List NamedFile) → P xs → Q ys → R (xs ++ ys))
    → Given (HandsIn told old now) P
    → Given (HandsIn later now new) Q
    → Given (HandsIn told old new) R
given_more told later old now new P Q R same so (xs, first, p) (ys, next, q) =
    (xs ++ ys, hands_more told later old now new xs ys same first next, so xs ys p q)
