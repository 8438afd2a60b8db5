-- A dash, or none.
use Rattle.std.proofs.Common.{◌≡◌, ◌-◌, ◌++◌, ℕ, Bool, true, false, ap, subst, sym, ◌∙◌}
use Rattle.std.specs.Prelude.{codes, decimal}
use Rattle.std.proofs.Output.{has_written_of_eq}
use Rattle.d64_image.specs.Geometry.{sectors_on}
use Rattle.d64_image.specs.declared.place.Place.{Place}
use Rattle.disk_pictures.specs.Pictures.{arc, dash_text, radius}
use Rattle.disk_pictures.proofs.pages.arcs.DashDisplay.fmt.Goals as goal

-- how long the sector's own arc is
long : (p : Place) (t r a : ℕ) → t ≡ p.track → r ≡ radius t → a ≡ arc r (sectors_on p.track)
    → a ≡ arc (radius p.track) (sectors_on p.track)
long p t r a here ring value = value ∙ ap (λ (n : ℕ). arc n (sectors_on p.track)) (ring ∙ ap radius here)

white : (p : Place) (b : Bool) (a s : ℕ) → b ≡ true → s ≡ a - 200 → a ≡ arc (radius p.track) (sectors_on p.track)
    → decimal s ++ codes " 200 " ≡ dash_text b p
unfolding dash_text
white p b a s is less of = subst (λ (x : Bool). decimal s ++ codes " 200 " ≡ dash_text x p) (sym is)
    (ap (λ (n : ℕ). decimal n ++ codes " 200 ") (less ∙ ap (λ (n : ℕ). n - 200) of))

none : (p : Place) (b : Bool) (a : ℕ) → b ≡ false → a ≡ arc (radius p.track) (sectors_on p.track)
    → codes "0 " ++ (decimal a ++ codes " ") ≡ dash_text b p
unfolding dash_text
none p b a is of = subst (λ (x : Bool). codes "0 " ++ (decimal a ++ codes " ") ≡ dash_text x p) (sym is)
    (ap (λ (n : ℕ). codes "0 " ++ (decimal n ++ codes " ")) of)

pub returns-then-self-clause-writes : goal.returns-then-self-clause-writes
returns-then-self-clause-writes g c = λ plain done. has_written_of_eq _ _ _ _ _
    (white c.args.self.now.place _ _ _ c.if-self.true c.saturating_sub.ensures
    (long c.args.self.now.place _ _ _ c.track.ensures c.radius.ensures c.arc_length-length.ensures.value))
    (c.write.ensures.writes plain done)

pub returns-else-self-clause-writes : goal.returns-else-self-clause-writes
returns-else-self-clause-writes g c = λ plain done. has_written_of_eq _ _ _ _ _
    (none c.args.self.now.place _ _ c.if-self.false
    (long c.args.self.now.place _ _ _ c.track.ensures c.radius.ensures c.arc_length-length.ensures.value))
    (c.write-else-self.ensures.writes plain done)
