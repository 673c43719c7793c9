-- Which forms need the numbers of names.
use Rattle.std.specs.Prelude.{Bool, true, false}
use Rattle.js_semantics.specs.declared.form.Form.{Form}
use Rattle.js_semantics.specs.declared.form.Form.TheVariants.{Script as script, EnterFor as enter_for, EnterForOf as enter_for_of, Block as block, Function as function, Method as method, Object as object, Call as call, CallOf as call_of, Initialize as initialize, Catching as catching, Read as read, TypeofName as typeof_name, Assign as assign, Compound as compound, Update as update, Delete as delete}

-- forms with names or an entry
abbrev pub needs_names : Form → Bool
needs_names (script number names) = true
needs_names (enter_for node constant names) = true
needs_names (enter_for_of node b) = true
needs_names (block names) = true
needs_names (initialize name) = true
needs_names (catching name) = true
needs_names (read r) = true
needs_names (typeof_name name) = true
needs_names (function f) = true
needs_names (method f) = true
needs_names (object ms) = true
needs_names (assign r) = true
needs_names (compound o r) = true
needs_names (update o prefix r) = true
needs_names (delete r) = true
needs_names (call place statement) = true
needs_names (call_of r place statement) = true
needs_names f = false
