-- Worked examples of the definitions, by computing.
use Rattle.std.proofs.Common.{◌≡◌, ℕ, suc, zero, List, [], ◌∷◌, true, false, Some, None, refl, inl, inr, ⊎_elim, arith, ◌≤◌, ◌⊎◌}
use Rattle.std.specs.Prelude.{codes, slice_get}
use Rattle.one_host.specs.Worlds.{IsMix, Kept, OneOf, Shows}
use Rattle.one_host.specs.Calls.{are_one, brought, doubted, ended, folder_of, keeps_out, put, turned}
use Rattle.one_host.specs.declared.parts.Entry.{Entry}
use Rattle.one_host.specs.declared.parts.Entry.TheVariants.{Leads, Nothing}
use Rattle.one_host.specs.declared.parts.Lock.TheVariants.{Alone, Free, Shared}

-- bytes over others, bytes behind the end, a file that is cut, one that grows
over : put (1 ∷ 2 ∷ 3 ∷ []) 1 (9 ∷ []) ≡ 1 ∷ 9 ∷ 3 ∷ []
over = refl

behind : put (1 ∷ []) 3 (9 ∷ []) ≡ 1 ∷ 0 ∷ 0 ∷ 9 ∷ []
behind = refl

cut : ended (1 ∷ 2 ∷ 3 ∷ []) 2 ≡ 1 ∷ 2 ∷ []
cut = refl

grown : ended (1 ∷ []) 3 ≡ 1 ∷ 0 ∷ 0 ∷ []
grown = refl

-- the folder of a path
inside : folder_of (codes "a/b/shop.d64") ≡ codes "a/b/"
inside = refl

here : folder_of (codes "shop.d64") ≡ []
here = refl

top : folder_of (codes "/shop.d64") ≡ codes "/"
top = refl

-- a write that isn't synced: power may leave one byte of it and lose the other
torn : IsMix (3 ∷ 4 ∷ []) ((1 ∷ 2 ∷ []) ∷ []) (1 ∷ 4 ∷ [])
torn = record { each = each; size = inl (omega arith) }
  where
    each : (i : ℕ) → OneOf (λ was. Shows was i (slice_get (1 ∷ 4 ∷ []) i)) (3 ∷ 4 ∷ []) ((1 ∷ 2 ∷ []) ∷ [])
    each zero = inr (inl refl)
    each (suc zero) = inl (inl refl)
    each (suc (suc i)) = inl (inl refl)

-- it leaves no third byte
no_third : IsMix (3 ∷ 4 ∷ []) ((1 ∷ 2 ∷ []) ∷ []) (5 ∷ 4 ∷ []) → ⊥
no_third m = ⊎_elim (⊎_elim (λ e. absurd (cc e)) (λ z. omega (arith, z.0))) (⊎_elim (λ e. absurd (cc e)) (λ z. omega (arith, z.0))) (m.each 0)

-- a name that came, and one that went, until the folder is synced; and with a sync that failed on the way
abbrev came : Kept Entry
came = turned (record { now = Nothing; before = []; in_doubt = false }) (Leads 7)

still : came.before ≡ Nothing ∷ []
still = refl

safe : (brought came).before ≡ []
safe = refl

never : (brought (doubted came)).before ≡ Nothing ∷ []
never = refl

-- two names of one file
one : are_one (Leads 7) (Leads 7) ≡ true
one = refl

other : are_one (Leads 7) Nothing ≡ false
other = refl

-- who keeps whom out
reader_reader : keeps_out Shared Shared ≡ false
reader_reader = refl

reader_writer : keeps_out Shared Alone ≡ true
reader_writer = refl

writer_reader : keeps_out Alone Shared ≡ true
writer_reader = refl
