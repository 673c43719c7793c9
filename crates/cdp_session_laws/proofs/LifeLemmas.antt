-- What a list of events leaves of the ids of a session.
use Rattle.std.proofs.Common.{◌≡◌, ℕ, ◌+◌, ◌≤◌, Bool, true, false, List, [], ◌∷◌, ◌++◌, refl, sym, ap, subst, ◌∙◌, arith, inl, inr}
use Rattle.std.specs.Prelude.{◌⊎◌, if◌then◌else◌, Option, Some, None, option_and_then}
use Rattle.serde_json.specs.Read.{read}
use Rattle.cdp_json.specs.Commands.{reading_of}
use Rattle.cdp_json.specs.declared.command.Reading.TheVariants.{Command}
use Rattle.cdp_json.specs.declared.method.Method.{Method}
use Rattle.cdp_json.specs.declared.params.Params.TheVariants.{ReleaseObject, ReleaseObjectGroup}
use Rattle.std.specs.Prelude.{nat_eq, nat_le}
use Rattle.std.proofs.lemmas.Bool.Decides.{nat_tests}
use Rattle.std.proofs.lemmas.Slice.Eq.{bytes_eq-Decides}
use Rattle.object_groups.specs.Handles.{HeldHandles}
use Rattle.object_groups.specs.declared.handle.Handle.{Handle}
use Rattle.pure_eval.specs.Workspaces.{Workspace}
use Rattle.remote_objects.specs.Ids.{number_in_id}
use Rattle.cdp_session.specs.Objects.{handle_of, numbered}
use Rattle.cdp_session.specs.Sessions.{Session, fresh}
use Rattle.cdp_session.specs.Situations.{Situation}
use Rattle.cdp_session_laws.specs.Events.{Event, Texted, after_all, after_event, lived}
use Rattle.cdp_session_laws.specs.Handles.{IsOrdered, KeepsNumbers, NoneEnds, ends, is_in_group, is_of, reading_releases, releases, unless_ended}
use Rattle.cdp_session_laws.specs.Unknown.{IsUnknownObject}
use Rattle.cdp_session_laws.proofs.GrowLemmas.{found-number, none-above}
use Rattle.cdp_session_laws.proofs.EventLemmas.{event-leaves, leaves-handles, ordered}
use Rattle.cdp_session_laws.proofs.IdLemmas.{unknown-object}

-- ---- lists of events

-- some events and then others
pub after-both : (before after : List Event) (x : Session)
    → after_all (before ++ after) x ≡ after_all after (after_all before x)
after-both [] after x = refl
after-both (e ∷ before) after x = after-both before after (after_event e x)

-- ---- no number is used again

-- what may be released is there or isn't
released-or-not : (b : Bool) (h : Handle) (o : Option Handle)
    → o ≡ (if b then None else Some h)
    → (o ≡ Some h) ⊎ (o ≡ None)
released-or-not true h o is = inr is
released-or-not false h o is = inl is

as-before-or-gone : (e : Event) (x : Session) (o p : Option Handle)
    → p ≡ unless_ended e x o
    → (p ≡ o) ⊎ (p ≡ None)
as-before-or-gone e x None p is = inl is
as-before-or-gone e x (Some h) p is = released-or-not (ends e x h) h p is

-- what stays or goes twice stays or goes
twice : (o p q : Option Handle) → (p ≡ o) ⊎ (p ≡ None) → (q ≡ p) ⊎ (q ≡ None) → (q ≡ o) ⊎ (q ≡ None)
twice o p q (inl a) (inl b) = inl (b ∙ a)
twice o p q (inr a) (inl b) = inr (b ∙ a)
twice o p q a (inr b) = inr b

pub keeps-none : (h : HeldHandles) → KeepsNumbers h h
keeps-none h = record { counted = omega arith; each = λ n le. inl refl }

keeps-then : (a b c : HeldHandles) → KeepsNumbers a b → KeepsNumbers b c → KeepsNumbers a c
keeps-then a b c first second =
    let more = first.counted in
    let most = second.counted in
    record {
      counted = omega (arith, more, most);
      each = λ n le. twice (numbered a.held n) (numbered b.held n) (numbered c.held n) (first.each n le)
          (second.each n (omega (arith, le, more)));
    }

pub keeps-after : (es : List Event) (x : Session)
    → IsOrdered x.handles
    → KeepsNumbers x.handles (after_all es x).handles
keeps-after [] x o = keeps-none x.handles
keeps-after (e ∷ es) x o =
    let l = leaves-handles e x o in
    keeps-then x.handles (after_event e x).handles (after_all es (after_event e x)).handles
    (record {
      counted = l.counted;
      each = λ n le. as-before-or-gone e x (numbered x.handles.held n) (numbered (after_event e x).handles.held n)
          (l.each n le);
    })
    (keeps-after es (after_event e x) (event-leaves e x o).fate.ordered)

pub no-number-again : (number : ℕ) (workspace : Workspace) (before after : List Event)
    → KeepsNumbers (lived number workspace before).handles (lived number workspace (before ++ after)).handles
no-number-again number workspace before after =
    subst (λ (y : Session). KeepsNumbers (lived number workspace before).handles y.handles)
    (sym (after-both before after (fresh number workspace)))
    (keeps-after after (lived number workspace before) (ordered number workspace before))

-- ---- ids

-- a session keeps its number
pub same-number : (es : List Event) (x : Session) → IsOrdered x.handles → (after_all es x).number ≡ x.number
same-number [] x o = refl
same-number (e ∷ es) x o =
    same-number es (after_event e x) (event-leaves e x o).fate.ordered ∙ (event-leaves e x o).number

-- what is held was made
pub held-made : (h : HeldHandles) (n : ℕ) (k : Handle) → IsOrdered h → numbered h.held n ≡ Some k → n ≤ h.made
held-made h n k o is = at (nat_le n h.made) refl
  where
    at : (b : Bool) → nat_le n h.made ≡ b → n ≤ h.made
    at true e = grind (arith, nat_tests)
    at false e =
        let above : h.made + 1 ≤ n = grind (arith, nat_tests) in
        let none = none-above (h.made + 1) n h.held o.below above in
        absurd cc

-- the number in an id of which a handle is found
number-found : (x : Session) (o : Option ℕ) (k : Handle)
    → option_and_then (numbered x.handles.held) o ≡ Some k
    → o ≡ Some k.number
number-found x None k is = absurd cc
number-found x (Some n) k is = ap Some (sym (found-number n x.handles.held k is))

-- what is found by an id after events is what is found by its number
by-number : (x y : Session) (id : List ℕ) (k : Handle)
    → handle_of x id ≡ Some k
    → y.number ≡ x.number
    → handle_of y id ≡ numbered y.handles.held k.number
by-number x y id k is same =
    ap (option_and_then (numbered y.handles.held))
    (ap (λ n. number_in_id n id) same ∙ number-found x (number_in_id x.number id) k is)

pub found-held : (x : Session) (id : List ℕ) (k : Handle)
    → handle_of x id ≡ Some k
    → numbered x.handles.held k.number ≡ Some k
found-held x id k is = sym (by-number x x id k is refl) ∙ is

-- ---- until it is released

pub stays-by : (e : Event) (x : Session) (k : Handle)
    → IsOrdered x.handles
    → numbered x.handles.held k.number ≡ Some k
    → ends e x k ≡ false
    → numbered (after_event e x).handles.held k.number ≡ Some k
stays-by e x k o is spared =
    (leaves-handles e x o).each k.number (held-made x.handles k.number k o is)
    ∙ ap (unless_ended e x) is
    ∙ ap (λ b. if b then None else Some k) spared

stays-all : (es : List Event) (x : Session) (k : Handle)
    → IsOrdered x.handles
    → numbered x.handles.held k.number ≡ Some k
    → NoneEnds es x k
    → numbered (after_all es x).handles.held k.number ≡ Some k
stays-all [] x k o is none = is
stays-all (e ∷ es) x k o is none =
    stays-all es (after_event e x) k (event-leaves e x o).fate.ordered (stays-by e x k o is none.0) none.1

pub id-stays : (number : ℕ) (workspace : Workspace) (before after : List Event) (id : List ℕ) (k : Handle)
    → handle_of (lived number workspace before) id ≡ Some k
    → NoneEnds after (lived number workspace before) k
    → handle_of (lived number workspace (before ++ after)) id ≡ Some k
id-stays number workspace before after id k is none =
    let x : Session = lived number workspace before in
    let o = ordered number workspace before in
    ap (λ y. handle_of y id) (after-both before after (fresh number workspace))
    ∙ by-number x (after_all after x) id k is (same-number after x o)
    ∙ stays-all after x k o (found-held x id k is) none

-- ---- after it was released

gone-by : (e : Event) (x : Session) (k : Handle)
    → IsOrdered x.handles
    → numbered x.handles.held k.number ≡ Some k
    → ends e x k ≡ true
    → numbered (after_event e x).handles.held k.number ≡ None
gone-by e x k o is ended =
    (leaves-handles e x o).each k.number (held-made x.handles k.number k o is)
    ∙ ap (unless_ended e x) is
    ∙ ap (λ b. if b then None else Some k) ended

-- what isn't held by a number that was given stays so
either-none : (o p : Option Handle) → o ≡ None → (p ≡ o) ⊎ (p ≡ None) → p ≡ None
either-none o p none (inl same) = same ∙ none
either-none o p none (inr gone) = gone

gone-after : (es : List Event) (x : Session) (n : ℕ)
    → IsOrdered x.handles
    → n ≤ x.handles.made
    → numbered x.handles.held n ≡ None
    → numbered (after_all es x).handles.held n ≡ None
gone-after es x n o le none =
    either-none (numbered x.handles.held n) (numbered (after_all es x).handles.held n) none
    ((keeps-after es x o).each n le)

pub id-gone : (number : ℕ) (workspace : Workspace) (before : List Event) (e : Event) (after : List Event)
    (s : Situation) (id : List ℕ) (k : Handle)
    → handle_of (lived number workspace before) id ≡ Some k
    → ends e (lived number workspace before) k ≡ true
    → IsUnknownObject s (lived number workspace (before ++ e ∷ after)) id
id-gone number workspace before e after s id k is ended =
    let x : Session = lived number workspace before in
    let y : Session = after_event e x in
    let o = ordered number workspace before in
    let later = (event-leaves e x o).fate.ordered in
    let made = held-made x.handles k.number k o (found-held x id k is) in
    let more = (leaves-handles e x o).counted in
    unknown-object s (lived number workspace (before ++ e ∷ after)) id
    (ap (λ z. handle_of z id) (after-both before (e ∷ after) (fresh number workspace))
    ∙ by-number x (after_all (e ∷ after) x) id k is (same-number (e ∷ after) x o)
    ∙ gone-after after y k.number later (omega (arith, made, more)) (gone-by e x k o (found-held x id k is) ended))

-- the command that names the id releases it
ends-named : (x : Session) (id : List ℕ) (k : Handle) → handle_of x id ≡ Some k → releases (ReleaseObject id) x k ≡ true
ends-named x id k is =
    let same : nat_eq k.number k.number ≡ true = grind (arith, nat_tests) in
    ap (λ o. is_of o k) (number-found x (number_in_id x.number id) k is) ∙ same

pub released-id : (number : ℕ) (workspace : Workspace) (before after : List Event) (s later : Situation) (said : List ℕ)
    (c : ℕ) (method : Method) (id : List ℕ) (k : Handle)
    → reading_of (read said) ≡ Command c method (ReleaseObject id)
    → handle_of (lived number workspace before) id ≡ Some k
    → IsUnknownObject later (lived number workspace (before ++ Texted s said ∷ after)) id
released-id number workspace before after s later said c method id k reads is =
    let x : Session = lived number workspace before in
    id-gone number workspace before (Texted s said) after later id k is
    (ap (λ r. reading_releases r x k) reads ∙ ends-named x id k is)

-- so does the one that names its group
pub released-group : (number : ℕ) (workspace : Workspace) (before after : List Event) (s later : Situation)
    (said : List ℕ) (c : ℕ) (method : Method) (group id : List ℕ) (k : Handle)
    → reading_of (read said) ≡ Command c method (ReleaseObjectGroup group)
    → handle_of (lived number workspace before) id ≡ Some k
    → k.group ≡ Some group
    → IsUnknownObject later (lived number workspace (before ++ Texted s said ∷ after)) id
released-group number workspace before after s later said c method group id k reads is grouped =
    let x : Session = lived number workspace before in
    id-gone number workspace before (Texted s said) after later id k is
    (ap (λ r. reading_releases r x k) reads
    ∙ (ap (is_in_group group) grouped ∙ (bytes_eq-Decides group group).1 refl))
