-- Lines of faults, written one after another.
use Rattle.std.proofs.Common.{◌≡◌, ◌<◌, ◌+◌, ◌++◌, ◌∷◌, [], ℕ, List, ap, append-nil, append_assoc, get_or, length, refl, subst, sym, take, ◌∙◌}
use Rattle.std.specs.Prelude.{None, Option, Some, codes}
use Rattle.std.specs.Io.KnownBytes.{Appends}
use Rattle.std.proofs.KnownBytes.{Appends-nil, Appends-trans}
use Rattle.std.proofs.lemmas.List.{take_more}
use Rattle.disk_layout.specs.declared.faults.Fault.{Fault}
use Rattle.d64_image.specs.Images.{Image}
use Rattle.disk_reports.specs.AllFaults.{AreLines, AreLinks, AreOthers, ArePrinted, IsLine, IsListed, fault_line}
use Rattle.disk_reports.specs.declared.links.Links.{Links}

lines-append : (l : Links) (fs gs : List Fault) (x y : List ℕ) → AreLines l fs x → AreLines l gs y
    → AreLines l (fs ++ gs) (x ++ y)
lines-append l [] gs x y none more = rw none more
lines-append l (f ∷ fs) gs x y (files, shown, (rest, all, after)) more = (
  files,
  shown,
  (
    rest ++ y,
    ap (λ (t : List ℕ). t ++ y) all ∙ append_assoc (fault_line f files) rest y,
    lines-append l fs gs rest y after more,
  ),
)

-- the lines of some faults, and those of others
pub both-printed : (l : Links) (fs gs : List Fault) (a b c : Option (List ℕ)) → ArePrinted l fs a b → ArePrinted l gs b c
    → ArePrinted l (fs ++ gs) a c
both-printed l fs gs a b c (x, first, put) (y, second, more) =
    (x ++ y, lines-append l fs gs x y first second, Appends-trans a b c x y put more)

pub one-printed : (l : Links) (f : Fault) (a b : Option (List ℕ)) → IsLine l f a b → ArePrinted l (f ∷ []) a b
one-printed l f a b (files, shown, put) = (
  fault_line f files ++ [],
  (files, shown, ([], refl, refl)),
  subst (Appends a b) (sym (append-nil (fault_line f files))) put,
)

pub none-printed : (l : Links) (a : Option (List ℕ)) → ArePrinted l [] a a
none-printed l a = ([], refl, Appends-nil a)

pub one-more : (l : Links) (fs : List Fault) (i : ℕ) (f : Fault) (a b c : Option (List ℕ)) → i < length fs
    → f ≡ get_or fs i f → ArePrinted l (take i fs) a b → IsLine l f b c → ArePrinted l (take (i + 1) fs) a c
one-more l fs i f a b c inside here so_far line =
    subst (λ (gs : List Fault). ArePrinted l gs a c)
    (sym (take_more fs i f inside ∙ ap (λ (x : Fault). take i fs ++ x ∷ []) (sym here)))
    (both-printed l (take i fs) (f ∷ []) a b c so_far (one-printed l f b c line))

-- what is printed of a disk with faults, and of one without
pub listed-all : (img : Image) (l : Links) (first : Fault) (others : List Fault) (a b : Option (List ℕ)) → AreLinks img l
    → AreOthers l first others → ArePrinted l (first ∷ others) a b → IsListed img (Some first) a b
listed-all img l first others a b links are (text, lines, put) = (text, (l, links, (others, are, lines)), put)

pub listed-none : (img : Image) (a b : Option (List ℕ)) → Appends a b (codes "OK\n") → IsListed img None a b
listed-none img a b put = (codes "OK\n", refl, put)
