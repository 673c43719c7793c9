-- What an evaluation answers.
use Rattle.std.specs.Prelude.{◌≡◌, Bool, true, false, Option, None, Some}
use Rattle.js_heap.specs.World.{World}
use Rattle.js_semantics.specs.Run.{Run, state_of}
use Rattle.js_semantics.specs.Evaluation.{Answer, a_result, a_throw, an_effect, is_full_of, spent}
use Rattle.js_machine_engine.specs.declared.run.Why.{Why}
use Rattle.js_machine_engine.specs.declared.run.Why.TheVariants as whys
use Rattle.js_machine_engine.specs.declared.stepped.Finish.{Finish}
use Rattle.js_machine_engine.specs.declared.stepped.Finish.TheVariants as finishes
use Rattle.js_machine_engine.specs.declared.task.Point.{Point}
use Rattle.js_machine_engine.specs.declared.task.Point.TheVariants as points
use Rattle.pure_eval.specs.declared.evaluated.Evaluated.{Evaluated}
use Rattle.pure_eval.specs.declared.evaluated.Evaluated.TheVariants as ends

-- the answer of the definition, with the world after it; want of memory says nothing
abbrev pub Answers : Answer → Evaluated → World → Type 0
Answers a (ends.Value v) w = a ≡ a_result v w
Answers a (ends.Thrown v) w = a ≡ a_throw v w
Answers a ends.Effect w = a ≡ an_effect
Answers a (ends.Full what) w = a ≡ is_full_of what
Answers a ends.Spent w = a ≡ spent
Answers a ends.Memory w = Unit {0}

-- the world is that of the run; want of memory says nothing
abbrev pub EndsIn : Run → Evaluated → World → Type 0
EndsIn r ends.Memory w = Unit {0}
EndsIn r e w = (state_of r).world ≡ w

-- how an evaluation ends whose run does
abbrev pub finished : Finish → Evaluated
finished (finishes.Ended v) = ends.Value v
finished (finishes.Threw v place) = ends.Thrown v

-- how it ends whose run stops, if it ends there
abbrev pub end_of : Why → Option Evaluated
end_of (whys.Over f) = Some (finished f)
end_of whys.Effect = Some ends.Effect
end_of (whys.Full what) = Some (ends.Full what)
end_of whys.Memory = Some ends.Memory
end_of why = None

-- how it ends that has made all its steps
abbrev pub end_at : Point → Evaluated
end_at (points.Done v) = ends.Value v
end_at p = ends.Spent

-- there was no memory for it
abbrev pub is_memory : Evaluated → Bool
is_memory ends.Memory = true
is_memory end = false
