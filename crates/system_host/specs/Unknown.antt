-- A system of which nothing is known. Our own.
use Rattle.std.specs.Prelude.{◌≡◌, false, [], None, refl}
use Rattle.one_host.specs.Worlds.{World}
use Rattle.one_host.specs.History.{HostHistory}
use Rattle.one_host.specs.declared.parts.Entry.TheVariants.{Nothing}
use Rattle.one_host.specs.declared.parts.Kind.TheVariants.{Regular}
use Rattle.one_host.specs.declared.parts.Lock.TheVariants.{Free}

-- any world
abbrev pub no_world : World
no_world = record {
  files = λ _. record { kind = Regular; mode = 0; bytes = record { now = []; before = []; in_doubt = false } };
  used = 0;
  names = λ _. record { now = Nothing; before = []; in_doubt = false };
  locks = λ _. Free;
  heard = [];
  ended = false;
  said = [];
  warned = [];
  hands = 0;
}

-- a history that says nothing
abbrev pub unknown : {H : Type 0} → HostHistory H
unknown = record {
  known = false;
  world = λ _. no_world;
  moment = λ _. 0;
  held = λ _ _ w. w ≡ no_world;
  failed = λ _. None;
  others = λ _ _. Free;
  now = λ h t le. refl;
  only_now = λ h w is. is;
}
