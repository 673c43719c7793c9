-- The scripts that files hold, one after another, and that none of them is refused.
use Rattle.std.proofs.Common.{◌≡◌, ℕ, ◌+◌, ◌<◌, ◌≤◌, true, false, List, [], ◌∷◌, ◌++◌, length, take, drop, get_or, Option, None, Some, Result, Ok, Err, refl, sym, ap, subst, ◌∙◌, inl, inr, arith, append_assoc, append-nil}
use Rattle.std.specs.Prelude.{IsUtf8, IfOk, IfErr}
use Rattle.std.specs.List.{range_with_len}
use Rattle.std.specs.Str.{is_utf8}
use Rattle.std.specs.declared.vec.Vec.{Vec}
use Rattle.std.specs.Borrow.{Bor}
use Rattle.std.specs.declared.alloc.Global.{Global}
use Rattle.std.proofs.lemmas.List.{take_more, drop_more, take-append-drop, map-append}
use Rattle.std.proofs.lemmas.Str.{is_utf8-from_IsUtf8}
use Rattle.cdp_edge.specs.Blame.{Faults, Blames, Read}
use Rattle.cdp_edge.specs.Outside.{NamedFile, IfTold, Tells, HandsIn, Given, one_file, with_file}
use Rattle.cdp_edge.proofs.HandedLemmas.{hands_nothing, hands_one, given_nothing, given_more}
use Rattle.cdp_text.specs.Units.{utf16_of}
use Rattle.js_tree.specs.declared.script.Script.{Script}
use Rattle.js_tree.specs.Height.{height_of_statements}
use Rattle.js_tree.specs.Trees.{Statements}
use Rattle.js_tree.specs.Views.{statements_view}
use Rattle.js_parser_language.specs.Language.{IsScript}
use Rattle.js_parser_language.specs.Places.{numbers_of, statements_places}
use Rattle.js_parser_language.specs.Tokens.{Token}
use Rattle.js_parser_language.specs.Well.{declared_names}
use Rattle.js_parser_laws.proofs.Completeness.{one_script}
use Rattle.js_parser_readers.specs.declared.fault.ParseFault.{ParseFault}
use Rattle.js_parser_readers.specs.declared.fault.ParseFault.TheVariants as parse
use Rattle.js_parser.specs.Faults.{Caused, IsCause, IsPlace, ComesFirst}
use Rattle.js_parser.specs.Spans.{AreSpansIn}
use Rattle.js_parser.specs.Sources.{IsSource, tokens_of}
use Rattle.js_parser.proofs.FaultLemmas.{no_tree}
use Rattle.js_parser.proofs.PlaceLemmas.{token_in, bad_within}
use Rattle.debug_host_script_files.specs.declared.fault.FileFault.{FileFault}
use Rattle.debug_host_script_files.specs.declared.fault.FileFault.TheVariants as faults
use Rattle.debug_host_script_files.specs.declared.fault.TextFault.{TextFault}
use Rattle.debug_host_script_files.specs.declared.fault.TextFault.TheVariants as refusals
use Rattle.debug_host_script_files.specs.TopNames.{declared_in, declared_by_script}
use Rattle.debug_host_script_files.specs.Refusals.{IsFaultOf, IsRefused, StandsWithin, refusal_of, fault_told}
use Rattle.debug_host_script_files.specs.Scripts.{IsScriptOf, HoldsScript, AreScriptsBehind, AreScripts, IsRefusedNext, StandsBehind, IsReachedAt, IsRefusedAt, IsOneMore, Fails, FailsNext, FailsAs, name_held, names_held}
use Rattle.debug_host_script_files.proofs.InputLemmas.{no_utf8}

-- ---- places of faults

at_place : (source : List ℕ) (at : ℕ) (before left : List Token)
    → tokens_of source ≡ before ++ left
    → IsPlace source left at
    → at ≤ length source
at_place source at before [] parts place = omega (arith, place.1)
at_place source at before (t ∷ left) parts place = omega (arith, place, token_in source before t left parts)

pub stands_within : (declared source : _) (f : ParseFault)
    → Caused (IsScript declared) height_of_statements source f
    → StandsWithin source f
stands_within declared source (parse.TooLong units) h = tt
stands_within declared source (parse.Token at) h = (omega (arith, bad_within source at h.1.0), omega (arith, h.0))
stands_within declared source (parse.Syntax at) h =
    (at_place source at h.1.0.before h.1.0.left h.1.0.parts h.1.0.place, omega (arith, h.0))
stands_within declared source (parse.TooMany at) h = tt
stands_within declared source parse.TooDeep h = tt
stands_within declared source parse.Memory h = tt

-- ---- the bytes of a script

pub script_is : (declared : List (List ℕ)) (before : ℕ) (name bytes text units slice : List ℕ) (n : ℕ) (s : Script)
    → text ≡ bytes
    → IsUtf8 bytes
    → units ≡ utf16_of text
    → slice ≡ units
    → n ≡ before + 1
    → IsSource (IsScript declared) height_of_statements slice (statements_view s.body)
    → (s.source ≡ slice) × (s.url ≡ utf16_of name) × (s.number ≡ n)
    → AreSpansIn slice s.spans (statements_places s.body)
    → numbers_of (statements_places s.body) ≡ range_with_len 0 (length s.spans)
    → IsScriptOf declared before name bytes s
script_is declared before name bytes text units slice n s t u f e number tree kept spans numbered =
    let same : slice ≡ utf16_of bytes = e ∙ f ∙ ap utf16_of t in
    record {
      utf8 = is_utf8-from_IsUtf8 bytes u;
      number = kept.2 ∙ number;
      url = kept.1;
      source = kept.0 ∙ same;
      tree =
          subst (λ (us : List ℕ). IsSource (IsScript declared) height_of_statements us (statements_view s.body))
          same tree;
      spans = subst (λ (us : List ℕ). AreSpansIn us s.spans (statements_places s.body)) same spans;
      numbered = numbered;
    }

pub within_other : (declared : List (List ℕ)) (units slice other : List ℕ) (f : ParseFault)
    → slice ≡ units
    → other ≡ units
    → Caused (IsScript declared) height_of_statements slice f
    → StandsWithin other f
within_other declared units slice other f e g h =
    subst (λ (us : List ℕ). StandsWithin us f) (e ∙ sym g) (stands_within declared slice f h)

told_as_fault : (declared : List (List ℕ)) (bytes : List ℕ) (f : ParseFault) (o : Option TextFault)
    → is_utf8 bytes ≡ true
    → IsFaultOf declared (utf16_of bytes) f
    → refusal_of (utf16_of bytes) f ≡ o
    → FailsAs (fault_told o) declared bytes
told_as_fault declared bytes f None u h e = tt
told_as_fault declared bytes f (Some r) u h e = inr (u, (f, record { fault = h; told = e }))

pub fault_is : (declared : List (List ℕ)) (bytes text units slice other : List ℕ) (f : ParseFault) (fault : FileFault)
    → text ≡ bytes
    → IsUtf8 bytes
    → units ≡ utf16_of text
    → slice ≡ units
    → other ≡ units
    → Caused (IsScript declared) height_of_statements slice f
    → ((g : ParseFault) → IsCause (IsScript declared) slice g → ComesFirst f g)
    → fault ≡ fault_told (refusal_of other f)
    → FailsAs fault declared bytes
fault_is declared bytes text units slice other f fault t u form e g caused first is =
    let same : slice ≡ utf16_of bytes = e ∙ form ∙ ap utf16_of t in
    let there : other ≡ utf16_of bytes = g ∙ form ∙ ap utf16_of t in
    let h : IsFaultOf declared slice f = record { caused = caused; first = first } in
    let here : IsFaultOf declared (utf16_of bytes) f = subst (λ (us : List ℕ). IsFaultOf declared us f) same h in
    let now : FailsAs (fault_told (refusal_of other f)) declared bytes = told_as_fault declared bytes f
    (refusal_of other f) (is_utf8-from_IsUtf8 bytes u) here (ap (λ us. refusal_of us f) (sym there)) in
    subst (λ (x : FileFault). FailsAs x declared bytes) (sym is) now

pub not_text : (declared : List (List ℕ)) (bytes : List ℕ)
    → ¬ (IsUtf8 bytes)
    → IsRefused declared bytes refusals.NotUtf8
not_text declared bytes h = inl (no_utf8 bytes h, refl)

-- ---- one more script

pub declared_more : (ss : List Script) (s : Script)
    → declared_in (ss ++ s ∷ []) ≡ declared_in ss ++ declared_by_script s
declared_more [] s = append-nil (declared_by_script s)
declared_more (x ∷ ss) s =
    ap (λ ns. declared_by_script x ++ ns) (declared_more ss s)
    ∙ sym (append_assoc (declared_by_script x) (declared_in ss) (declared_by_script s))

are_more : (given : List NamedFile) (earlier : List Script) (names : List (List ℕ)) (ss : List Script)
    (name bytes : List ℕ) (s : Script)
    → AreScriptsBehind given earlier names ss
    → IsScriptOf (declared_in (earlier ++ ss)) (length (earlier ++ ss)) name bytes s
    → AreScriptsBehind (given ++ one_file name bytes) earlier (names ++ name ∷ []) (ss ++ s ∷ [])
are_more [] earlier [] [] name bytes s h n = (
  refl,
  subst (λ (e : List Script). IsScriptOf (declared_in e) (length e) name bytes s) (append-nil earlier) n,
  tt,
)
are_more [] earlier [] (x ∷ ss) name bytes s h n = absurd h
are_more [] earlier (m ∷ names) ss name bytes s h n = absurd h
are_more (file ∷ given) earlier [] ss name bytes s h n = absurd h
are_more (file ∷ given) earlier (m ∷ names) [] name bytes s h n = absurd h
are_more (file ∷ given) earlier (m ∷ names) (x ∷ ss) name bytes s h n = (
  h.0,
  h.1,
  are_more given (earlier ++ x ∷ []) names ss name bytes s h.2
      (subst (λ (e : List Script). IsScriptOf (declared_in e) (length e) name bytes s) (sym (append_assoc earlier (x ∷ []) ss)) n),
)

-- ---- none is refused

not_told : (d : List (List ℕ)) (source : List ℕ) (body : Statements) (f : ParseFault) (r : TextFault)
    → IsSource (IsScript d) height_of_statements source body
    → Caused (IsScript d) height_of_statements source f
    → refusal_of source f ≡ Some r
    → ⊥
not_told d source body (parse.TooLong units) r h c t =
    no_tree (IsScript d) height_of_statements source (parse.TooLong units) tt c body h.0
not_told d source body (parse.Token at) r h c t =
    no_tree (IsScript d) height_of_statements source (parse.Token at) tt c body h.0
not_told d source body (parse.Syntax at) r h c t =
    no_tree (IsScript d) height_of_statements source (parse.Syntax at) tt c body h.0
not_told d source body (parse.TooMany at) r h c t =
    no_tree (IsScript d) height_of_statements source (parse.TooMany at) tt c body h.0
not_told d source body parse.TooDeep r h (inl deep) t =
    let e : body ≡ deep.0 = one_script d (tokens_of source) body deep.0 h.0.is deep.1.0.is in
    omega (arith, h.1, deep.1.1, ap height_of_statements e)
not_told d source body parse.TooDeep r h (inr begun) t =
    let l = begun.1 in
    let i : IsScript d (l.before ++ l.left) body = subst (λ (ts : List Token). IsScript d ts body) l.parts h.0.is in
    omega (arith, l.deeper l.left body i, h.1)
not_told d source body parse.Memory r h c t = absurd cc

-- bytes that are a script aren't refused
script_stands : (d : List (List ℕ)) (before : ℕ) (name bytes : List ℕ) (s : Script) (r : TextFault)
    → IsScriptOf d before name bytes s
    → IsRefused d bytes r
    → ⊥
script_stands d before name bytes s r h (inl i) =
    let t : is_utf8 bytes ≡ true = h.utf8 in let f : is_utf8 bytes ≡ false = i.0 in absurd cc
script_stands d before name bytes s r h (inr i) =
    not_told d (utf16_of bytes) (statements_view s.body) i.1.0 r h.tree i.1.1.fault.caused i.1.1.told

-- two readings of one file give one tree
same_tree : (d e : List (List ℕ)) (a b : ℕ) (name bytes others : List ℕ) (s t : Script)
    → d ≡ e
    → bytes ≡ others
    → IsScriptOf d a name bytes s
    → IsScriptOf e b name others t
    → statements_view s.body ≡ statements_view t.body
same_tree d e a b name bytes others s t p q h i =
    let here : IsScript e (tokens_of (utf16_of bytes)) (statements_view t.body) = subst
    (λ (bs : List ℕ). IsScript e (tokens_of (utf16_of bs)) (statements_view t.body)) (sym q) i.tree.0.is in
    let now : IsScript d (tokens_of (utf16_of bytes)) (statements_view t.body) = subst
    (λ (ns : List (List ℕ)). IsScript ns (tokens_of (utf16_of bytes)) (statements_view t.body)) (sym p) here in
    one_script d (tokens_of (utf16_of bytes)) (statements_view s.body) (statements_view t.body) h.tree.0.is now

declared_after : (a b : List Script) (s t : Script)
    → declared_in a ≡ declared_in b
    → statements_view s.body ≡ statements_view t.body
    → declared_in (a ++ s ∷ []) ≡ declared_in (b ++ t ∷ [])
declared_after a b s t p q =
    declared_more a s
    ∙ ap (λ ns. ns ++ declared_names (statements_view s.body)) p
    ∙ ap (λ v. declared_in b ++ declared_names v) q
    ∙ sym (declared_more b t)

excluded : (given : List NamedFile) (bytes : List ℕ) (a b : List Script) (before : List (List ℕ)) (name : List ℕ)
    (behind : List (List ℕ)) (ss us : List Script) (r : TextFault)
    → declared_in a ≡ declared_in b
    → AreScriptsBehind (given ++ one_file name bytes) a (before ++ name ∷ behind) ss
    → AreScriptsBehind given b before us
    → IsRefused (declared_in (b ++ us)) bytes r
    → ⊥
excluded [] bytes a b [] name behind [] [] r p h j refused = absurd h
excluded [] bytes a b [] name behind (s ∷ ss) [] r p h j refused =
    let now : IsRefused (declared_in a) bytes r = subst (λ (ns : List (List ℕ)). IsRefused ns bytes r)
    (ap declared_in (append-nil b) ∙ sym p) refused in
    script_stands (declared_in a) (length a) name bytes s r h.1 now
excluded [] bytes a b [] name behind ss (u ∷ us) r p h j refused = absurd j
excluded [] bytes a b (n ∷ before) name behind ss us r p h j refused = absurd j
excluded (file ∷ given) bytes a b [] name behind ss us r p h j refused = absurd j
excluded (file ∷ given) bytes a b (n ∷ before) name behind ss [] r p h j refused = absurd j
excluded (file ∷ given) bytes a b (n ∷ before) name behind [] (u ∷ us) r p h j refused = absurd h
excluded (file ∷ given) bytes a b (n ∷ before) name behind (s ∷ ss) (u ∷ us) r p h j refused =
    let tree = same_tree (declared_in a) (declared_in b) (length a) (length b) n file.bytes file.bytes s u p refl h.1 j.1 in
    excluded given bytes (a ++ s ∷ []) (b ++ u ∷ []) before name behind ss us r (declared_after a b s u p tree) h.2 j.2
    (subst (λ (e : List Script). IsRefused (declared_in e) bytes r) (sym (append_assoc b (u ∷ []) us)) refused)

-- where all files hold scripts, none is refused
pub none_refused : (given : List NamedFile) (names : List (List ℕ)) (ss : List Script) (name : List ℕ) (r : TextFault)
    → AreScripts given names ss
    → IsRefusedAt given names name r
    → ⊥
none_refused given names ss name r h i =
    let parts : given ≡ i.earlier ++ one_file name i.next.bytes = i.parts ∙ ap (λ l. i.earlier ++ l) i.next.there in
    excluded i.earlier i.next.bytes [] [] i.reached.before name i.reached.stands.behind ss i.reached.scripts r refl
    (subst (λ (ns : List (List ℕ)). AreScripts (i.earlier ++ one_file name i.next.bytes) ns ss) i.reached.stands.parts
    (subst (λ (fs : List NamedFile). AreScripts fs names ss) parts h)) i.reached.are i.next.refused

-- ---- what a shelf handed in

abbrev Files : Type 1
Files = List NamedFile → Type 0

given_script : (told : Option (List NamedFile)) (old new : List NamedFile) (bytes : Vec ℕ Global) (name text : List ℕ)
    (declared : List (List ℕ)) (earlier : List Script) (s : Script)
    → IfTold told (λ all. Tells (Ok bytes) name all)
    → new ≡ with_file old name bytes.items
    → text ≡ bytes.items
    → declared ≡ declared_in earlier
    → IsScriptOf declared (length earlier) name text s
    → Given (HandsIn told old new) (λ given. HoldsScript given earlier name s)
given_script told old new bytes name text declared earlier s h log e d i = (
  one_file name bytes.items,
  hands_one told old new name bytes h log,
  record {
    bytes = bytes.items;
    there = refl;
    script =
        let here : IsScriptOf declared (length earlier) name bytes.items s = subst
        (λ (bs : List ℕ). IsScriptOf declared (length earlier) name bs s) e i in
        subst (λ (ns : List (List ℕ)). IsScriptOf ns (length earlier) name bytes.items s) d here;
  },
)

given_refused : (told : Option (List NamedFile)) (old new : List NamedFile) (bytes : Vec ℕ Global) (name text : List ℕ)
    (declared : List (List ℕ)) (earlier : List Script) (r : TextFault)
    → IfTold told (λ all. Tells (Ok bytes) name all)
    → new ≡ with_file old name bytes.items
    → text ≡ bytes.items
    → declared ≡ declared_in earlier
    → IsRefused declared text r
    → Given (HandsIn told old new) (λ given. IsRefusedNext given earlier name r)
given_refused told old new bytes name text declared earlier r h log e d i = (
  one_file name bytes.items,
  hands_one told old new name bytes h log,
  record {
    bytes = bytes.items;
    there = refl;
    refused =
        let here : IsRefused declared bytes.items r = subst (λ (bs : List ℕ). IsRefused declared bs r) e i in
        subst (λ (ns : List (List ℕ)). IsRefused ns bytes.items r) d here;
  },
)

-- something was handed in
pub given_some : (told : Option (List NamedFile)) (old new : List NamedFile) (bytes : Vec ℕ Global) (name : List ℕ)
    → IfTold told (λ all. Tells (Ok bytes) name all)
    → new ≡ with_file old name bytes.items
    → Given (HandsIn told old new) (λ given. Unit {0})
given_some told old new bytes name h log = (one_file name bytes.items, hands_one told old new name bytes h log, tt)

fails_next : (fault : FileFault) (told : Option (List NamedFile)) (old new : List NamedFile) (bytes : Vec ℕ Global)
    (name text : List ℕ) (declared : List (List ℕ)) (earlier : List Script) (before after : Faults)
    → IfTold told (λ all. Tells (Ok bytes) name all)
    → new ≡ with_file old name bytes.items
    → text ≡ bytes.items
    → declared ≡ declared_in earlier
    → after ≡ before
    → FailsAs fault declared text
    → FailsNext fault (HandsIn told old new) earlier name before after
fails_next (faults.Refused r) told old new bytes name text declared earlier before after h log e d same i =
    (same, given_refused told old new bytes name text declared earlier r h log e d i)
fails_next faults.CannotRead told old new bytes name text declared earlier before after h log e d same i = absurd i
fails_next faults.Memory told old new bytes name text declared earlier before after h log e d same i =
    (same, given_some told old new bytes name h log)

pub read_ok : (r : Result Script FileFault) (told : Option (List NamedFile)) (old new : List NamedFile)
    (bytes : Vec ℕ Global) (name text : List ℕ) (declared : List (List ℕ)) (earlier : List Script) (n : ℕ)
    → n ≡ length earlier
    → IfTold told (λ all. Tells (Ok bytes) name all)
    → new ≡ with_file old name bytes.items
    → text ≡ bytes.items
    → declared ≡ declared_in earlier
    → IfOk r (λ s. IsScriptOf declared n name text s)
    → IfOk r (λ s. Given (HandsIn told old new) (λ given. HoldsScript given earlier name s))
read_ok (Ok s) told old new bytes name text declared earlier n l h log e d i =
    given_script told old new bytes name text declared earlier s h log e d
    (subst (λ (m : ℕ). IsScriptOf declared m name text s) l i)
read_ok (Err f) told old new bytes name text declared earlier n l h log e d i = tt

pub read_fault : (r : Result Script FileFault) (told : Option (List NamedFile)) (old new : List NamedFile)
    (bytes : Vec ℕ Global) (name text : List ℕ) (declared : List (List ℕ)) (earlier : List Script) (before after : Faults)
    → IfTold told (λ all. Tells (Ok bytes) name all)
    → new ≡ with_file old name bytes.items
    → text ≡ bytes.items
    → declared ≡ declared_in earlier
    → after ≡ before
    → IfErr r (λ f. FailsAs f declared text)
    → IfErr r (λ f. FailsNext f (HandsIn told old new) earlier name before after)
read_fault (Ok s) told old new bytes name text declared earlier before after h log e d same i = tt
read_fault (Err f) told old new bytes name text declared earlier before after h log e d same i =
    fails_next f told old new bytes name text declared earlier before after h log e d same i

-- a read that gave nothing for want of memory
pub memory_next : (told : Option (List NamedFile)) (old new : List NamedFile) (before after : Faults)
    → new ≡ old
    → after ≡ before
    → (after ≡ before) × Given (HandsIn told old new) (λ given. Unit {0})
memory_next told old new before after log same = (same, given_nothing told old new (λ given. Unit {0}) log tt)

-- a read that failed
pub unread_next : (told : Option (List NamedFile)) (old new : List NamedFile) (name : List ℕ) (before after : Faults)
    → new ≡ old
    → Blames (Read name) before after
    → Blames (Read name) before after × HandsIn told old new []
unread_next told old new name before after log blames = (blames, hands_nothing told old new log)

-- for reads that gave nothing
pub ruleset unread = (memory_next, unread_next)

pub given_one_more : (Hands : Files) (lent old new : List Script) (s : Script) (name : List ℕ)
    → lent ≡ old
    → Given Hands (λ given. HoldsScript given lent name s)
    → new ≡ old ++ s ∷ []
    → Given Hands (λ given. IsOneMore given old new name)
given_one_more Hands lent old new s name l (given, hands, h) e = (
  given,
  hands,
  record { script = s; added = e; holds = subst (λ (ss : List Script). HoldsScript given ss name s) l h },
)

-- what was handed in, of which something more is known
pub given_any : (Hands : Files) (P : Files) → Given Hands P → Given Hands (λ given. Unit {0})
given_any Hands P (given, hands, h) = (given, hands, tt)

pub fails_lent : (fault : FileFault) (Hands : Files) (lent old : List Script) (name : List ℕ) (before after : Faults)
    → lent ≡ old
    → FailsNext fault Hands lent name before after
    → FailsNext fault Hands old name before after
fails_lent fault Hands lent old name before after l h =
    subst (λ (ss : List Script). FailsNext fault Hands ss name before after) l h

pub kept_names : (old new : List (List ℕ)) (ss us : List Script) (s : Script)
    → old ≡ declared_in ss
    → new ≡ old ++ declared_by_script s
    → us ≡ ss ++ s ∷ []
    → new ≡ declared_in us
kept_names old new ss us s e f g =
    f ∙ ap (λ ns. ns ++ declared_by_script s) e ∙ sym (declared_more ss s) ∙ ap declared_in (sym g)

-- ---- the names one after another

one_name_more : (names : List (Bor (List ℕ))) (i : ℕ) (other : Bor (List ℕ))
    → i < length names
    → names_held (take (i + 1) names) ≡ names_held (take i names) ++ name_held (get_or names i other) ∷ []
one_name_more names i other h =
    ap names_held (take_more names i other h) ∙ map-append name_held (take i names) (get_or names i other ∷ [])

one_script_more : (names : List (Bor (List ℕ))) (i : ℕ) (other : Bor (List ℕ)) (ss new : List Script)
    (xs ys : List NamedFile)
    → i < length names
    → AreScripts xs (names_held (take i names)) ss
    → IsOneMore ys ss new (name_held (get_or names i other))
    → AreScripts (xs ++ ys) (names_held (take (i + 1) names)) new
one_script_more names i other ss new xs ys lt h more =
    let front = names_held (take i names) in
    let name = name_held (get_or names i other) in
    let there : AreScripts (xs ++ one_file name more.holds.bytes) (front ++ name ∷ []) (ss ++ more.script ∷ [])
    = are_more xs [] front ss name more.holds.bytes more.script h more.holds.script in
    let here : AreScripts (xs ++ ys) (front ++ name ∷ []) (ss ++ more.script ∷ [])
    = subst (λ (fs : List NamedFile). AreScripts (xs ++ fs) (front ++ name ∷ []) (ss ++ more.script ∷ []))
    (sym more.holds.there) there in
    let now : AreScripts (xs ++ ys) (names_held (take (i + 1) names)) (ss ++ more.script ∷ []) = subst
    (λ (ns : List (List ℕ)). AreScripts (xs ++ ys) ns (ss ++ more.script ∷ [])) (sym (one_name_more names i other lt)) here in
    subst (λ (us : List Script). AreScripts (xs ++ ys) (names_held (take (i + 1) names)) us) (sym more.added) now

pub given_are_more : (told later : Option (List NamedFile)) (old mid last : List NamedFile) (names : List (Bor (List ℕ)))
    (i : ℕ) (other : Bor (List ℕ)) (ss new : List Script)
    → later ≡ told
    → i < length names
    → Given (HandsIn told old mid) (λ given. AreScripts given (names_held (take i names)) ss)
    → Given (HandsIn later mid last) (λ given. IsOneMore given ss new (name_held (get_or names i other)))
    → Given (HandsIn told old last) (λ given. AreScripts given (names_held (take (i + 1) names)) new)
given_are_more told later old mid last names i other ss new same lt h more =
    given_more told later old mid last _ _ _ same
    (λ xs ys. one_script_more names i other ss new xs ys lt) h more

pub stands_behind : (names : List (Bor (List ℕ))) (i : ℕ) (other : Bor (List ℕ))
    → i < length names
    → StandsBehind (names_held names) (names_held (take i names)) (name_held (get_or names i other))
stands_behind names i other lt = record {
  behind = names_held (drop (i + 1) names);
  parts =
      ap names_held (sym (take-append-drop i names))
      ∙ map-append name_held (take i names) (drop i names)
      ∙ ap (λ ns. names_held (take i names) ++ names_held ns) (drop_more names i other lt);
}

abbrev reached : (given : List NamedFile) (names front : List (List ℕ)) (name : List ℕ) (ss : List Script)
    → StandsBehind names front name
    → AreScripts given front ss
    → IsReachedAt given names name
reached given names front name ss s h = record { before = front; stands = s; scripts = ss; are = h }

refused_behind : (names front : List (List ℕ)) (name : List ℕ) (ss : List Script) (r : TextFault)
    → StandsBehind names front name
    → (xs ys : List NamedFile)
    → AreScripts xs front ss
    → IsRefusedNext ys ss name r
    → IsRefusedAt (xs ++ ys) names name r
refused_behind names front name ss r s xs ys h n =
    record { earlier = xs; last = ys; parts = refl; reached = reached xs names front name ss s h; next = n }

reached_behind : (names front : List (List ℕ)) (name : List ℕ) (ss : List Script)
    → StandsBehind names front name
    → (xs ys : List NamedFile)
    → AreScripts xs front ss
    → ys ≡ []
    → IsReachedAt (xs ++ ys) names name
reached_behind names front name ss s xs ys h none =
    subst (λ (fs : List NamedFile). IsReachedAt fs names name) (sym (ap (λ l. xs ++ l) none ∙ append-nil xs))
    (reached xs names front name ss s h)

-- the fault of the shelf as it is now is one of the shelf as it was, where nothing failed so far
pub fails_at : (fault : FileFault) (told later : Option (List NamedFile)) (old mid last : List NamedFile)
    (names front : List (List ℕ)) (name : List ℕ) (ss : List Script) (before now after : Faults)
    → later ≡ told
    → now ≡ before
    → StandsBehind names front name
    → Given (HandsIn told old mid) (λ given. AreScripts given front ss)
    → FailsNext fault (HandsIn later mid last) ss name now after
    → Fails fault (HandsIn told old last) names name before after
fails_at (faults.Refused r) told later old mid last names front name ss before now after t b s h n = (
  n.0 ∙ b,
  given_more told later old mid last _ _ _ t (refused_behind names front name ss r s) h n.1,
)
fails_at faults.CannotRead told later old mid last names front name ss before now after t b s h n = (
  subst (λ (x : Faults). Blames (Read name) x after) b n.0,
  (front, s),
  given_more told later old mid last _ (λ ys. ys ≡ []) _ t (reached_behind names front name ss s) h ([], n.1, refl),
)
fails_at faults.Memory told later old mid last names front name ss before now after t b s h n = (
  n.0 ∙ b,
  given_more told later old mid last _ (λ ys. Unit {0}) _ t (λ xs ys p q. tt) h n.1,
)

-- no file so far
pub given_no_scripts : (told : Option (List NamedFile)) (old new : List NamedFile)
    → new ≡ old
    → Given (HandsIn told old new) (λ given. AreScripts given [] [])
given_no_scripts told old new same = given_nothing told old new (λ given. AreScripts given [] []) same tt
