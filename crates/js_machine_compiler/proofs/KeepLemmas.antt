-- A table with one more entry keeps what it has.
use Rattle.std.proofs.Common.{◌≡◌, List, [], ◌∷◌, ◌++◌, refl}
use Rattle.std.specs.Global.{Vec}
use Rattle.js_heap.specs.declared.value.Value.{Value}
use Rattle.js_heap_memory.specs.declared.stored.Slot.{Slot}
use Rattle.js_machine_nodes.specs.Lists.{Items}
use Rattle.js_machine_nodes.specs.declared.node.ScriptEntry.{ScriptEntry}
use Rattle.js_machine_nodes.specs.declared.node.ForEntry.{ForEntry}
use Rattle.js_machine_nodes.specs.declared.node.ForOfEntry.{ForOfEntry}
use Rattle.js_machine_nodes.specs.declared.node.CallEntry.{CallEntry}
use Rattle.js_machine_nodes.specs.declared.node.MemberEntry.{MemberEntry}
use Rattle.js_machine_nodes.specs.declared.node.FunctionEntry.{FunctionEntry}
use Rattle.js_machine_nodes.specs.declared.table.NodeTable.{NodeTable}
use Rattle.js_machine_compiler.specs.Grown.{KeepsTable}
use Rattle.js_machine_compiler.proofs.GrownLemmas.{begins_same, begins_more, same_nodes, same_places}

pub keeps_constants : (t : NodeTable) (xs : Items Value) (x : Value)
    → xs.items ≡ t.constants.items ++ x ∷ []
    → KeepsTable t (record t { constants = xs })
keeps_constants t xs x e = record {
  entries =
      record {
        nodes = begins_same t.nodes.items;
        kids = begins_same t.kids.items;
        constants = begins_more t.constants.items xs.items
            (x ∷ [])
            e;
        blocks = begins_same t.blocks.items;
        scripts = begins_same t.scripts.items;
        fors = begins_same t.fors.items;
        for_ofs = begins_same t.for_ofs.items;
        functions = begins_same t.functions.items;
        objects = begins_same t.objects.items;
        calls = begins_same t.calls.items;
      };
  table = same_nodes t (record t { constants = xs }) refl refl;
  places = same_places t (record t { constants = xs }) refl (begins_same t.functions.items);
  sources = refl;
}

pub keeps_blocks : (t : NodeTable) (xs : Items (List Slot)) (x : List Slot)
    → xs.items ≡ t.blocks.items ++ x ∷ []
    → KeepsTable t (record t { blocks = xs })
keeps_blocks t xs x e = record {
  entries =
      record {
        nodes = begins_same t.nodes.items;
        kids = begins_same t.kids.items;
        constants = begins_same t.constants.items;
        blocks = begins_more t.blocks.items xs.items
            (x ∷ [])
            e;
        scripts = begins_same t.scripts.items;
        fors = begins_same t.fors.items;
        for_ofs = begins_same t.for_ofs.items;
        functions = begins_same t.functions.items;
        objects = begins_same t.objects.items;
        calls = begins_same t.calls.items;
      };
  table = same_nodes t (record t { blocks = xs }) refl refl;
  places = same_places t (record t { blocks = xs }) refl (begins_same t.functions.items);
  sources = refl;
}

pub keeps_scripts : (t : NodeTable) (xs : Items ScriptEntry) (x : ScriptEntry)
    → xs.items ≡ t.scripts.items ++ x ∷ []
    → KeepsTable t (record t { scripts = xs })
keeps_scripts t xs x e = record {
  entries =
      record {
        nodes = begins_same t.nodes.items;
        kids = begins_same t.kids.items;
        constants = begins_same t.constants.items;
        blocks = begins_same t.blocks.items;
        scripts = begins_more t.scripts.items xs.items
            (x ∷ [])
            e;
        fors = begins_same t.fors.items;
        for_ofs = begins_same t.for_ofs.items;
        functions = begins_same t.functions.items;
        objects = begins_same t.objects.items;
        calls = begins_same t.calls.items;
      };
  table = same_nodes t (record t { scripts = xs }) refl refl;
  places = same_places t (record t { scripts = xs }) refl (begins_same t.functions.items);
  sources = refl;
}

pub keeps_fors : (t : NodeTable) (xs : Items ForEntry) (x : ForEntry)
    → xs.items ≡ t.fors.items ++ x ∷ []
    → KeepsTable t (record t { fors = xs })
keeps_fors t xs x e = record {
  entries =
      record {
        nodes = begins_same t.nodes.items;
        kids = begins_same t.kids.items;
        constants = begins_same t.constants.items;
        blocks = begins_same t.blocks.items;
        scripts = begins_same t.scripts.items;
        fors = begins_more t.fors.items xs.items
            (x ∷ [])
            e;
        for_ofs = begins_same t.for_ofs.items;
        functions = begins_same t.functions.items;
        objects = begins_same t.objects.items;
        calls = begins_same t.calls.items;
      };
  table = same_nodes t (record t { fors = xs }) refl refl;
  places = same_places t (record t { fors = xs }) refl (begins_same t.functions.items);
  sources = refl;
}

pub keeps_for_ofs : (t : NodeTable) (xs : Items ForOfEntry) (x : ForOfEntry)
    → xs.items ≡ t.for_ofs.items ++ x ∷ []
    → KeepsTable t (record t { for_ofs = xs })
keeps_for_ofs t xs x e = record {
  entries =
      record {
        nodes = begins_same t.nodes.items;
        kids = begins_same t.kids.items;
        constants = begins_same t.constants.items;
        blocks = begins_same t.blocks.items;
        scripts = begins_same t.scripts.items;
        fors = begins_same t.fors.items;
        for_ofs = begins_more t.for_ofs.items xs.items
            (x ∷ [])
            e;
        functions = begins_same t.functions.items;
        objects = begins_same t.objects.items;
        calls = begins_same t.calls.items;
      };
  table = same_nodes t (record t { for_ofs = xs }) refl refl;
  places = same_places t (record t { for_ofs = xs }) refl (begins_same t.functions.items);
  sources = refl;
}

pub keeps_functions : (t : NodeTable) (xs : Items FunctionEntry) (x : FunctionEntry)
    → xs.items ≡ t.functions.items ++ x ∷ []
    → KeepsTable t (record t { functions = xs })
keeps_functions t xs x e = record {
  entries =
      record {
        nodes = begins_same t.nodes.items;
        kids = begins_same t.kids.items;
        constants = begins_same t.constants.items;
        blocks = begins_same t.blocks.items;
        scripts = begins_same t.scripts.items;
        fors = begins_same t.fors.items;
        for_ofs = begins_same t.for_ofs.items;
        functions = begins_more t.functions.items xs.items
            (x ∷ []) e;
        objects = begins_same t.objects.items;
        calls = begins_same t.calls.items;
      };
  table = same_nodes t (record t { functions = xs }) refl refl;
  places = same_places t (record t { functions = xs }) refl (begins_more t.functions.items xs.items (x ∷ []) e);
  sources = refl;
}

pub keeps_objects : (t : NodeTable) (xs : Items (Vec MemberEntry)) (x : Vec MemberEntry)
    → xs.items ≡ t.objects.items ++ x ∷ []
    → KeepsTable t (record t { objects = xs })
keeps_objects t xs x e = record {
  entries =
      record {
        nodes = begins_same t.nodes.items;
        kids = begins_same t.kids.items;
        constants = begins_same t.constants.items;
        blocks = begins_same t.blocks.items;
        scripts = begins_same t.scripts.items;
        fors = begins_same t.fors.items;
        for_ofs = begins_same t.for_ofs.items;
        functions = begins_same t.functions.items;
        objects = begins_more t.objects.items xs.items
            (x ∷ []) e;
        calls = begins_same t.calls.items;
      };
  table = same_nodes t (record t { objects = xs }) refl refl;
  places = same_places t (record t { objects = xs }) refl (begins_same t.functions.items);
  sources = refl;
}

pub keeps_calls : (t : NodeTable) (xs : Items CallEntry) (x : CallEntry)
    → xs.items ≡ t.calls.items ++ x ∷ []
    → KeepsTable t (record t { calls = xs })
keeps_calls t xs x e = record {
  entries =
      record {
        nodes = begins_same t.nodes.items;
        kids = begins_same t.kids.items;
        constants = begins_same t.constants.items;
        blocks = begins_same t.blocks.items;
        scripts = begins_same t.scripts.items;
        fors = begins_same t.fors.items;
        for_ofs = begins_same t.for_ofs.items;
        functions = begins_same t.functions.items;
        objects = begins_same t.objects.items;
        calls = begins_more t.calls.items xs.items
            (x ∷ []) e;
      };
  table = same_nodes t (record t { calls = xs }) refl refl;
  places = same_places t (record t { calls = xs }) refl (begins_same t.functions.items);
  sources = refl;
}

pub ruleset keeps_entries = (
  keeps_constants,
  keeps_blocks,
  keeps_scripts,
  keeps_fors,
  keeps_for_ofs,
  keeps_functions,
  keeps_objects,
  keeps_calls,
)
