-- What was printed on standard output. Our own.
use Rattle.std.specs.Prelude.{◌≡◌, ◌++◌, ℕ, List, take}
use Rattle.one_host.specs.Worlds.{World}

-- a text more was printed
abbrev pub has_said : World → List ℕ → World
has_said w text = record w { said = w.said ++ text }

-- w is the world v, but some first bytes of the text were printed
pub record OnlySaid (v : World) (text : List ℕ) (w : World) : Type 0 where
  pub count : ℕ
  pub is : w ≡ has_said v (take count text)
