-- Numbers of one digit and of five, computed.
use Rattle.std.specs.Prelude.{◌≡◌}
use Rattle.laws.specs.{Kit.{refl}, Text.{text}}
use Rattle.text.specs.Number.{digits, decimal}

decimal_0 : decimal 0 ≡ text "0"
unfolding digits decimal
decimal_0 = refl

decimal_large : decimal 65535 ≡ text "65535"
unfolding digits decimal
decimal_large = refl

decimal_inner : decimal 90010 ≡ text "90010"
unfolding digits decimal
decimal_inner = refl
