-- The texts of scopes and frames, piece by piece.
use Rattle.std.proofs.Common.{◌≡◌, ℕ, ◌+◌, ◌<◌, ◌^◌, Bool, true, List, [], ◌∷◌, ◌++◌, length, drop, get_or, map, codes, decimal, Option, Some, None, refl, sym, ap, ◌∙◌, subst, append_assoc}
use Rattle.std.specs.Char.{encode_utf8}
use Rattle.std.specs.Char.Utf16.{utf16_chars}
use Rattle.std.proofs.lemmas.List.{at_drop_more}
use Rattle.json.specs.Print.{escape_byte}
use Rattle.cdp_text.specs.Units.{utf8_of}
use Rattle.cdp_text.specs.declared.position.Place.{Place}
use Rattle.frames_scopes_types.specs.Frames.{ShownFrame, ShownScope}
use Rattle.frames_scopes_types.specs.Views.{frame_of, scope_of as shown_scope}
use Rattle.frames_scopes_types.specs.declared.frame.CallFrame.{CallFrame}
use Rattle.frames_scopes_types.specs.declared.kind.ListedKind.{ListedKind}
use Rattle.frames_scopes_types.specs.declared.kind.ListedKind.TheVariants as kinds
use Rattle.frames_scopes_types.specs.declared.scope.Scope.{Scope}
use Rattle.js_tree.specs.Scripts.{script_numbered}
use Rattle.object_groups.specs.Handles.{HeldHandles}
use Rattle.cdp_json.specs.Json as json
use Rattle.cdp_json.specs.Compact.{compact_text, string_text, with_commas}
use Rattle.cdp_json.specs.Parts.{list_of, location, object_of}
use Rattle.cdp_json.specs.Pieces.{Wrote, comma_if, commas_after, object_in_order}
use Rattle.cdp_json.proofs.PieceLemmas.{list-behind, object-is, text_more}
use Rattle.cdp_json.proofs.PlainLemmas.{quoted_three}
use Rattle.remote_objects.specs.CallFrames.{frame_made, frame_object, frames_from, function_pairs, kind_text, name_pairs, scope_of, url_of}
use Rattle.remote_objects.specs.Ids.{frame_id}
use Rattle.remote_objects.specs.Making.{Made}
use Rattle.remote_objects.specs.Sights.{Sight}
use Rattle.remote_objects.specs.Written.{frame_back, frame_front, function_text_at, scope_back, scope_front}
use Rattle.remote_objects.proofs.DescriptorTextLemmas.{Continues, all-written}

-- ---- scopes

kind_back : (kind : ListedKind) → codes ",\"type\":" ++ (string_text (kind_text kind) ++ codes "}") ≡ scope_back kind
unfolding utf8_of utf16_chars encode_utf8 escape_byte
kind_back kinds.Block = refl
kind_back kinds.Catch = refl
kind_back kinds.Local = refl
kind_back kinds.Closure = refl
kind_back kinds.Script = refl
kind_back kinds.Global = refl

unnamed_pieces : (o t : List ℕ) → object_in_order ((codes "object", o) ∷ (codes "type", t) ∷ [])
    ≡ codes "{\"object\":" ++ (o ++ (codes ",\"type\":" ++ (t ++ codes "}")))
unfolding utf8_of utf16_chars encode_utf8 escape_byte
unnamed_pieces o t = refl

named_pieces : (n o t : List ℕ)
    → object_in_order ((codes "name", n) ∷ (codes "object", o) ∷ (codes "type", t) ∷ [])
    ≡ codes "{\"name\":" ++ (n ++ (codes ",\"object\":" ++ (o ++ (codes ",\"type\":" ++ (t ++ codes "}")))))
unfolding utf8_of utf16_chars encode_utf8 escape_byte
named_pieces n o t = refl

scope_pieces : (name : List ℕ) (kind : ListedKind) (described : json.Json)
    → scope_front name ++
    (compact_text described ++ (codes ",\"type\":" ++ (string_text (kind_text kind) ++ codes "}")))
    ≡ compact_text (object_of
    (name_pairs name ++ (codes "object", described) ∷ (codes "type", json.text (kind_text kind)) ∷ []))
scope_pieces [] kind described =
    sym (object-is ((codes "object", described) ∷ (codes "type", json.text (kind_text kind)) ∷ [])
    ((codes "object", compact_text described) ∷ (codes "type", string_text (kind_text kind)) ∷ []) refl
    ∙ unnamed_pieces (compact_text described) (string_text (kind_text kind)))
scope_pieces (u ∷ us) kind described =
    let n = string_text (u ∷ us) in
    let o = compact_text described in
    let t = string_text (kind_text kind) in
    ap (λ s. codes "{\"name\":" ++ s)
    (append_assoc n (codes ",\"object\":") (o ++ (codes ",\"type\":" ++ (t ++ codes "}"))))
    ∙ sym (object-is
    ((codes "name", json.text (u ∷ us)) ∷ (codes "object", described) ∷ (codes "type", json.text (kind_text kind)) ∷ [])
    ((codes "name", n) ∷ (codes "object", o) ∷ (codes "type", t) ∷ []) refl
    ∙ named_pieces n o t)

-- the name, the object and the kind are the whole scope
pub scope-written : (s : ShownScope) (described : json.Json)
    → scope_front s.name ++ (compact_text described ++ scope_back s.kind) ≡ compact_text (scope_of s described)
scope-written s described =
    ap (λ b. scope_front s.name ++ (compact_text described ++ b)) (sym (kind_back s.kind))
    ∙ scope_pieces s.name s.kind described

pub scope-here : (ss : List Scope) (i : ℕ) (d : Scope) → i < length ss
    → map shown_scope (drop i ss) ≡ shown_scope (get_or ss i d) ∷ map shown_scope (drop (i + 1) ss)
scope-here ss i d lt = at_drop_more (map shown_scope) ss i d lt

-- ---- frames

pub frame-id-written : (session stop depth : ℕ) → session < 2 ^ 64 → stop < 2 ^ 64 → depth < 2 ^ 64
    → codes "\"" ++ (decimal session ++ (codes "." ++ (decimal stop ++ (codes "." ++ (decimal depth ++ codes "\"")))))
    ≡ string_text (frame_id session stop depth)
frame-id-written session stop depth first second third =
    sym (quoted_three session stop depth 46 first second third refl)

pub frame-front-written : (session stop depth : ℕ) (f : ShownFrame)
    → codes "{\"callFrameId\":" ++
    (string_text (frame_id session stop depth) ++
    (function_text_at f.function_place ++
    (codes ",\"functionName\":" ++
    (string_text f.name ++ (codes ",\"location\":" ++ compact_text (location f.place))))))
    ≡ frame_front session stop depth f
unfolding frame_front
frame-front-written session stop depth f = refl

pub frame-back-written : (scopes receiver url : List ℕ)
    → codes ",\"scopeChain\":[" ++
    (scopes ++
    (codes "],\"this\":" ++ (receiver ++ (codes ",\"url\":" ++ (string_text url ++ codes "}")))))
    ≡ frame_back scopes receiver url
unfolding frame_back
frame-back-written scopes receiver url = refl

script_pieces : (i n l c t u : List ℕ)
    → object_in_order
    ((codes "callFrameId", i) ∷ (codes "functionName", n) ∷ (codes "location", l) ∷ (codes "scopeChain", c)
    ∷ (codes "this", t) ∷ (codes "url", u) ∷ [])
    ≡ codes "{\"callFrameId\":" ++
    (i ++ (codes ",\"functionName\":" ++
    (n ++ (codes ",\"location\":" ++
    (l ++ (codes ",\"scopeChain\":" ++
    (c ++ (codes ",\"this\":" ++ (t ++ (codes ",\"url\":" ++ (u ++ codes "}")))))))))))
unfolding utf8_of utf16_chars encode_utf8 escape_byte
script_pieces i n l c t u = refl

call_pieces : (i p n l c t u : List ℕ)
    → object_in_order
    ((codes "callFrameId", i) ∷ (codes "functionLocation", p) ∷ (codes "functionName", n) ∷ (codes "location", l)
    ∷ (codes "scopeChain", c) ∷ (codes "this", t) ∷ (codes "url", u) ∷ [])
    ≡ codes "{\"callFrameId\":" ++
    (i ++ (codes ",\"functionLocation\":" ++
    (p ++ (codes ",\"functionName\":" ++
    (n ++ (codes ",\"location\":" ++
    (l ++ (codes ",\"scopeChain\":" ++
    (c ++ (codes ",\"this\":" ++ (t ++ (codes ",\"url\":" ++ (u ++ codes "}")))))))))))))
unfolding utf8_of utf16_chars encode_utf8 escape_byte
call_pieces i p n l c t u = refl

front_behind : (a b c d rest : List ℕ)
    → (codes "{\"callFrameId\":" ++
    (a ++ (b ++ (codes ",\"functionName\":" ++ (c ++ (codes ",\"location\":" ++ d)))))) ++ rest
    ≡ codes "{\"callFrameId\":" ++
    (a ++ (b ++ (codes ",\"functionName\":" ++ (c ++ (codes ",\"location\":" ++ (d ++ rest))))))
front_behind a b c d rest =
    ap (λ s. codes "{\"callFrameId\":" ++ s)
    (append_assoc a (b ++ (codes ",\"functionName\":" ++ (c ++ (codes ",\"location\":" ++ d)))) rest
    ∙ ap (λ s. a ++ s)
    (append_assoc b (codes ",\"functionName\":" ++ (c ++ (codes ",\"location\":" ++ d))) rest
    ∙ ap (λ s. b ++ (codes ",\"functionName\":" ++ s)) (append_assoc c (codes ",\"location\":" ++ d) rest)))

-- the text of the list of scopes, with what stands behind it
chain_behind : (scopes : List json.Json) (rest : List ℕ)
    → codes ",\"scopeChain\":[" ++ (with_commas (map compact_text scopes) ++ (codes "]" ++ rest))
    ≡ codes ",\"scopeChain\":" ++ (compact_text (list_of scopes) ++ rest)
chain_behind scopes rest = ap (λ s. codes ",\"scopeChain\":" ++ s) (list-behind scopes rest)

frame_pieces : (id name url : List ℕ) (o : Option Place) (place : Place) (scopes : List json.Json)
    (receiver : json.Json)
    → codes "{\"callFrameId\":" ++
    (string_text id ++
    (function_text_at o ++
    (codes ",\"functionName\":" ++
    (string_text name ++
    (codes ",\"location\":" ++
    (compact_text (location place) ++
    (codes ",\"scopeChain\":" ++
    (compact_text (list_of scopes) ++
    (codes ",\"this\":" ++ (compact_text receiver ++ (codes ",\"url\":" ++ (string_text url ++ codes "}"))))))))))))
    ≡ compact_text (object_of
    ((codes "callFrameId", json.text id) ∷ function_pairs o ++ (codes "functionName", json.text name)
    ∷ (codes "location", location place) ∷ (codes "scopeChain", list_of scopes) ∷ (codes "this", receiver)
    ∷ (codes "url", json.text url) ∷ []))
frame_pieces id name url None place scopes receiver =
    let l = compact_text (location place) in
    let c = compact_text (list_of scopes) in
    sym (object-is
    ((codes "callFrameId", json.text id) ∷ (codes "functionName", json.text name) ∷ (codes "location", location place)
    ∷ (codes "scopeChain", list_of scopes) ∷ (codes "this", receiver) ∷ (codes "url", json.text url) ∷ [])
    ((codes "callFrameId", string_text id) ∷ (codes "functionName", string_text name) ∷ (codes "location", l)
    ∷ (codes "scopeChain", c) ∷ (codes "this", compact_text receiver) ∷ (codes "url", string_text url) ∷ []) refl
    ∙ script_pieces (string_text id) (string_text name) l c (compact_text receiver) (string_text url))
frame_pieces id name url (Some at) place scopes receiver =
    let p = compact_text (location at) in
    let l = compact_text (location place) in
    let c = compact_text (list_of scopes) in
    sym (object-is
    ((codes "callFrameId", json.text id) ∷ (codes "functionLocation", location at)
    ∷ (codes "functionName", json.text name) ∷ (codes "location", location place)
    ∷ (codes "scopeChain", list_of scopes) ∷ (codes "this", receiver)
    ∷ (codes "url", json.text url) ∷ [])
    ((codes "callFrameId", string_text id) ∷ (codes "functionLocation", p) ∷ (codes "functionName", string_text name)
    ∷ (codes "location", l) ∷ (codes "scopeChain", c) ∷ (codes "this", compact_text receiver)
    ∷ (codes "url", string_text url) ∷ []) refl
    ∙ call_pieces (string_text id) p (string_text name) l c (compact_text receiver) (string_text url))

-- the beginning and the end are the whole frame
pub frame-written : (s : Sight) (stop depth : ℕ) (f : ShownFrame) (scopes : List json.Json) (receiver : json.Json)
    → frame_front s.session stop depth f ++
    frame_back (with_commas (map compact_text scopes)) (compact_text receiver)
    (url_of (script_numbered s.scripts f.place.script))
    ≡ compact_text (frame_object s stop depth f scopes receiver)
unfolding frame_front frame_back
frame-written s stop depth f scopes receiver =
    let id = frame_id s.session stop depth in
    let url = url_of (script_numbered s.scripts f.place.script) in
    let tail = codes ",\"this\":" ++ (compact_text receiver ++ (codes ",\"url\":" ++ (string_text url ++ codes "}"))) in
    let back = frame_back (with_commas (map compact_text scopes)) (compact_text receiver) url in
    front_behind (string_text id) (function_text_at f.function_place) (string_text f.name)
    (compact_text (location f.place)) back
    ∙ (ap (λ t. codes "{\"callFrameId\":" ++
    (string_text id ++
    (function_text_at f.function_place ++
    (codes ",\"functionName\":" ++
    (string_text f.name ++ (codes ",\"location\":" ++ (compact_text (location f.place) ++ t)))))))
    (chain_behind scopes tail)
    ∙ frame_pieces id f.name url f.function_place f.place scopes receiver)

-- ---- all frames

pub frame-here : (fs : List CallFrame) (i : ℕ) (f : CallFrame) → i < length fs → f ≡ get_or fs i f
    → map frame_of (drop i fs) ≡ frame_of f ∷ map frame_of (drop (i + 1) fs)
frame-here fs i f lt is =
    at_drop_more (map frame_of) fs i f lt
    ∙ ap (λ x. frame_of x ∷ map frame_of (drop (i + 1) fs)) (sym is)

-- one frame more is written
pub frame-on : (s : Sight) (stop depth : ℕ) (fs : List ShownFrame) (f : ShownFrame) (rest : List ShownFrame)
    (behind next : Bool) (now new all : List ℕ) (h g : HeldHandles) (whole : Made (List json.Json))
    → fs ≡ f ∷ rest → next ≡ true
    → Wrote now (comma_if behind ++ compact_text (frame_made s stop depth f h).made) new
    → g ≡ (frame_made s stop depth f h).handles
    → Continues now all behind (frames_from s stop depth fs h) whole
    → Continues new all next (frames_from s stop (depth + 1) rest g) whole
frame-on s stop depth fs f rest behind next now new all h g whole e more put d inv =
    let P : List ShownFrame → Type 0 = λ zs. Continues now all behind (frames_from s stop depth zs h) whole in
    let here = subst P e inv in
    record {
      text =
          ap (λ k. new ++ commas_after next (map compact_text (frames_from s stop (depth + 1) rest k).made)) d
          ∙ text_more behind next now new (compact_text (frame_made s stop depth f h).made) all
          (map compact_text (frames_from s stop (depth + 1) rest (frame_made s stop depth f h).handles).made) more put
          here.text;
      handles = ap (λ k. (frames_from s stop (depth + 1) rest k).handles) d ∙ here.handles;
    }

pub frames-all : (s : Sight) (stop depth : ℕ) (fs : List ShownFrame) (behind : Bool) (now all : List ℕ)
    (h : HeldHandles)
    (whole : Made (List json.Json))
    → fs ≡ []
    → Continues now all behind (frames_from s stop depth fs h) whole
    → (now ≡ all) × (h ≡ whole.handles)
frames-all s stop depth fs behind now all h whole e inv =
    let P : List ShownFrame → Type 0 = λ zs. Continues now all behind (frames_from s stop depth zs h) whole in
    all-written {Y = ShownFrame} (frame_made s stop depth) [] behind now all h whole refl (subst P e inv)
