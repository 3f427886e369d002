-- A session whose table keeps the rules: every line leaves one again.
use Rattle.laws.specs.{Kit.{none, some}}
use Rattle.machine.specs.Rules.{Rules}
use Rattle.session.specs.{Session.{Session}}

-- no table, or one that keeps the rules
abbrev pub SessionKept : Session → Type 0
SessionKept none = Unit {0}
SessionKept (some s) = Rules s
