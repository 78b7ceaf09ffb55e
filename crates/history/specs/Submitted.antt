-- A whole command in a list of calls: document 02, P2. What may stand in its place.
use Rattle.std.specs.Prelude.{◌≡◌, List, ◌∷◌, ◌++◌}
use Rattle.writer.specs.Writing.{Command}
use Rattle.history.specs.Calls.{World, Call, submit, CallOutcome, perform, perform_all}

-- A write, the calls before it and those behind it.
module _ (before after : List Call) (c : Command) (w : World) where
  -- the world that the write finds
  abbrev pub found : World
  found = (perform_all before w).world

  -- the outcomes of the calls before it, and of those behind it
  abbrev pub earlier : List CallOutcome
  earlier = (perform_all before w).outcomes

  abbrev pub later : List CallOutcome
  later = (perform_all after (perform (submit c) found).world).outcomes

  -- These calls may stand in place of the write: the list leaves the same world, and the calls before and behind come out the same, each in what it answers
  -- and in the world that it leaves.
  pub record InPlace (calls : List Call) : Type 0 where
    pub same_world : (perform_all (before ++ (calls ++ after)) w).world ≡ (perform_all (before ++ (submit c ∷ after)) w).world
    pub as_written : (perform_all (before ++ (submit c ∷ after)) w).outcomes ≡ earlier ++ (perform (submit c) found ∷ later)
    pub in_its_place : (perform_all (before ++ (calls ++ after)) w).outcomes ≡ earlier ++ ((perform_all calls found).outcomes ++ later)
