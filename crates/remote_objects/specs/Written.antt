-- What is written of values, properties and frames, piece by piece.
use Rattle.std.specs.Prelude.{ℕ, Bool, List, [], ◌∷◌, ◌++◌, map, length, codes, if◌then◌else◌, Option, Some, None}
use Rattle.js_heap.specs.Values.{class_text, cell_text}
use Rattle.js_heap.specs.declared.cell.Cell.{Cell}
use Rattle.js_heap.specs.declared.cell.Cell.TheVariants as cells
use Rattle.js_heap.specs.declared.value.Value.{Value}
use Rattle.js_heap.specs.declared.value.Value.TheVariants as values
use Rattle.js_heap.specs.World.{World, read_cell}
use Rattle.cdp_text.specs.declared.position.Place.{Place}
use Rattle.frames_scopes_types.specs.Frames.{ShownFrame}
use Rattle.frames_scopes_types.specs.declared.kind.ListedKind.{ListedKind}
use Rattle.frames_scopes_types.specs.declared.kind.ListedKind.TheVariants as kinds
use Rattle.cdp_json.specs.Json.{Json, boolean}
use Rattle.cdp_json.specs.Compact.{compact_text, string_text, with_commas}
use Rattle.cdp_json.specs.Parts.{location}
use Rattle.remote_objects.specs.Ids.{frame_id, object_id}
use Rattle.remote_objects.specs.Previews.{PreviewList, cell_description, has_preview, listed, preview, shortened}
use Rattle.remote_objects.specs.Sights.{Sight}
use Rattle.remote_objects.specs.Values.{array_text, function_text}
use Rattle.remote_objects.specs.Making.{Made}

-- ---- objects

-- a truth value
abbrev pub truth_text : Bool → List ℕ
truth_text b = compact_text (boolean b)

-- the beginning of an object: its class, and what is shown of it
unfoldable pub front_of : List ℕ → List ℕ → List ℕ
front_of class shown =
    codes "{\"className\":" ++ (string_text class ++ (codes ",\"description\":" ++ string_text shown))

-- the beginning of a cell as an object
abbrev pub cell_front : Sight → Option Cell → List ℕ
cell_front s (Some (cells.Error class ps)) =
    front_of (class_text class) (cell_text s.world (Some (cells.Error class ps)))
cell_front s (Some (cells.Array vs)) = front_of (codes "Array") (array_text (length vs))
cell_front s (Some (cells.Function code name len scope receiver)) =
    front_of (codes "Function") (function_text s code name)
cell_front s cell = front_of (codes "Object") (codes "Object")

-- the id of an object's handle, where it has one
abbrev pub id_text : ℕ → Option ℕ → List ℕ
id_text session None = []
id_text session (Some n) = codes ",\"objectId\":" ++ string_text (object_id session n)

-- the end of a cell as an object: its subtype, where it has one, and its type
abbrev pub cell_back : Option Cell → List ℕ
cell_back (Some (cells.Error class ps)) = codes ",\"subtype\":\"error\",\"type\":\"object\"}"
cell_back (Some (cells.Array vs)) = codes ",\"subtype\":\"array\",\"type\":\"object\"}"
cell_back (Some (cells.Function code name len scope receiver)) = codes ",\"type\":\"function\"}"
cell_back cell = codes ",\"type\":\"object\"}"

-- ---- previews

-- behind the name of an entry, the kind of an object with this cell: its subtype, where it has one, and its type; and
-- the key of its value
abbrev pub cell_kind : Option Cell → List ℕ
cell_kind (Some (cells.Error class ps)) = codes ",\"subtype\":\"error\",\"type\":\"object\",\"value\":"
cell_kind (Some (cells.Array vs)) = codes ",\"subtype\":\"array\",\"type\":\"object\",\"value\":"
cell_kind (Some (cells.Function code name len scope receiver)) = codes ",\"type\":\"function\",\"value\":"
cell_kind cell = codes ",\"type\":\"object\",\"value\":"

-- the kind of a value
abbrev pub value_kind : World → Value → List ℕ
value_kind w values.Undefined = codes ",\"type\":\"undefined\",\"value\":"
value_kind w values.Null = codes ",\"subtype\":\"null\",\"type\":\"object\",\"value\":"
value_kind w (values.Bool b) = codes ",\"type\":\"boolean\",\"value\":"
value_kind w (values.Number z) = codes ",\"type\":\"number\",\"value\":"
value_kind w (values.Text a) = codes ",\"type\":\"string\",\"value\":"
value_kind w (values.Object a) = cell_kind (read_cell w a)

-- the first entries of a preview, and before them whether there are more
abbrev pub listed_entries : PreviewList → List ℕ
listed_entries l =
    codes ",\"overflow\":" ++
    (truth_text l.more ++ (codes ",\"properties\":[" ++ (with_commas (map compact_text l.first) ++ codes "]")))

-- the preview of a cell behind other members, piece by piece
abbrev pub preview_pieces : World → Option Cell → List ℕ
preview_pieces w cell =
    codes ",\"preview\":{\"description\":" ++
    (string_text (shortened (cell_description w cell)) ++ (listed_entries (listed w cell) ++ cell_back cell))

-- the preview of a cell behind other members, where it has one
abbrev pub preview_text : World → Option Cell → List ℕ
preview_text w cell = if has_preview cell then codes ",\"preview\":" ++ compact_text (preview w cell) else []

-- ---- properties

-- the beginning of a property: whether it is configurable and enumerable
abbrev pub flags_front : Bool → Bool → List ℕ
flags_front configurable enumerable =
    codes "{\"configurable\":" ++
    (truth_text configurable ++
    (codes ",\"enumerable\":" ++ (truth_text enumerable ++ codes ",\"isOwn\":true,\"name\":")))

-- its end: whether it is writable
abbrev pub writable_back : Bool → List ℕ
writable_back writable = codes ",\"writable\":" ++ (truth_text writable ++ codes "}")

-- its value's text, and its end
abbrev pub value_back : Bool → List ℕ → List ℕ
value_back writable value = codes ",\"value\":" ++ (value ++ writable_back writable)

-- values that were made, with commas between them
abbrev pub listed_text : Made (List Json) → List ℕ
listed_text m = with_commas (map compact_text m.made)

-- ---- frames

-- the beginning of a scope: its name, where it has one
abbrev pub scope_front : List ℕ → List ℕ
scope_front [] = codes "{\"object\":"
scope_front (u ∷ us) = codes "{\"name\":" ++ (string_text (u ∷ us) ++ codes ",\"object\":")

-- its end: how it is listed
abbrev pub scope_back : ListedKind → List ℕ
scope_back kinds.Block = codes ",\"type\":\"block\"}"
scope_back kinds.Catch = codes ",\"type\":\"catch\"}"
scope_back kinds.Local = codes ",\"type\":\"local\"}"
scope_back kinds.Closure = codes ",\"type\":\"closure\"}"
scope_back kinds.Script = codes ",\"type\":\"script\"}"
scope_back kinds.Global = codes ",\"type\":\"global\"}"

-- where a frame's function begins, where it has a function
abbrev pub function_text_at : Option Place → List ℕ
function_text_at None = []
function_text_at (Some place) = codes ",\"functionLocation\":" ++ compact_text (location place)

-- the beginning of a frame: which one it is, where its function begins, the name of that, and where the frame stands
unfoldable pub frame_front : ℕ → ℕ → ℕ → ShownFrame → List ℕ
frame_front session stop depth f =
    codes "{\"callFrameId\":" ++
    (string_text (frame_id session stop depth) ++
    (function_text_at f.function_place ++
    (codes ",\"functionName\":" ++
    (string_text f.name ++ (codes ",\"location\":" ++ compact_text (location f.place))))))

-- its end: its scopes, its `this` and its URL
unfoldable pub frame_back : List ℕ → List ℕ → List ℕ → List ℕ
frame_back scopes receiver url =
    codes ",\"scopeChain\":[" ++
    (scopes ++
    (codes "],\"this\":" ++ (receiver ++ (codes ",\"url\":" ++ (string_text url ++ codes "}")))))
