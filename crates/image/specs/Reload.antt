-- Saving a table and loading it again, as a step of a schedule.
use Rattle.machine.specs.{Table.{State}}
use Rattle.image.specs.Encode.{encode}
use Rattle.image.specs.Load.{Loaded, refused, loaded, load}

-- a refused image leaves the table that was
abbrev pub after_load : State → Loaded → State
after_load s (refused r) = s
after_load s (loaded t) = t

unfoldable pub reload : State → State
reload s = after_load s (load (encode s))
