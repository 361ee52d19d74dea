-- What is carried down a pile.
use Rattle.std.specs.Prelude.{List, Some, None, Option}
use Rattle.plate.specs.World.{Dot}
use Rattle.plate.specs.Plates.{Layer}
use Rattle.plate.specs.Piles.{carried}

-- both of two, or none where one is missing
abbrev pub pair_of : Option Dot → Option Dot → Option (Dot × Dot)
pair_of (Some p) (Some q) = Some (p, q)
pair_of (Some p) None = None
pair_of None q = None

-- a line's ends on the lowest plate, where both are carried there
abbrev pub carried_line : List Layer → Dot → Dot → Option (Dot × Dot)
carried_line ls from to = pair_of (carried ls from) (carried ls to)
