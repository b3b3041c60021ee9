-- 01, "Blocks": "A host that holds its tasks as a list of entries may have the list judged without packing it".
-- Assumes nothing.
use Rattle.std.specs.Prelude.{suc, min, List, [], ◌∷◌, set}
use Rattle.plan.specs.declared.Task.{Task}
use Rattle.plan.specs.declared.Plan.{Plan}

-- one more task: stored at the place of the count, where there is one, and counted up to 17
abbrev pub put_task : Plan → Task → Plan
put_task p t = record { count = min (suc p.count) 17; tasks = set p.tasks p.count t }

-- the tasks of a list put one after the other
abbrev pub gathered_from : Plan → List Task → Plan
gathered_from p [] = p
gathered_from p (t ∷ ts) = gathered_from (put_task p t) ts
