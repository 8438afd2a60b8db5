-- A file of an image, of which it is known which bytes it holds.
use Rattle.std.proofs.Common.{
  ◌≡◌,
  ◌∙◌,
  Bool,
  true,
  false,
  ℕ,
  List,
  Option,
  Some,
  None,
  ap,
  arith,
  length,
  refl,
  subst,
  sym,
  take,
}
use Rattle.std.specs.Prelude.{IfSome}
use Rattle.std.proofs.lemmas.Option.{none-some}
use Rattle.std.proofs.lemmas.List.{length-take}
use Rattle.std.proofs.Math.Seq.{take_all}
use Rattle.d64_image.specs.Keeps.{Agrees, kept_or}
use Rattle.d64_image.specs.Memory.{sectors_in}
use Rattle.image_file.specs.Lasting.{Whole, seen}
use Rattle.image_file.specs.LastingImages.{image_of, image_of-size}

-- bytes of which one more was asked for than there are
read_whole : (all image : List ℕ) → image ≡ take 174849 all → length image ≡ 174848 → length all ≡ 174848
read_whole all image e size =
    let n : length (take 174849 all) ≡ 174848 = sym (ap length e) ∙ size in
    omega (arith, n, length-take 174849 all)

-- what is looked at of a file is what it holds
pub seen_held : {F : Type 0} (held : F → Option (List ℕ)) (W : Whole held) (sized : Bool) (f : F) (X : Type 0)
    → (sized ≡ true → X) → (all : List ℕ) → (seen W.lasting sized).bytes f ≡ Some all → X × (held f ≡ Some all)
seen_held held W true f X whole all e = (whole refl, W.is_held f all e)
seen_held held W false f X whole all e = absurd (none-some all e)

-- and so as many bytes as an image has, where the image was read of it
pub sized : (o held : Option (List ℕ)) (image : List ℕ) → IfSome held (λ all. image ≡ take 174849 all)
    → ((all : List ℕ) → o ≡ Some all → (length image ≡ 174848) × (held ≡ Some all))
    → (all : List ℕ) → o ≡ Some all → length all ≡ 174848
sized o held image given is all e =
    let x = is all e in
    read_whole all image (subst (λ h. IfSome h (λ all. image ≡ take 174849 all)) x.1 given) x.0

pub agrees_at : (o held : Option (List ℕ)) (image : List ℕ) → IfSome held (λ all. image ≡ take 174849 all)
    → ((all : List ℕ) → o ≡ Some all → (length image ≡ 174848) × (held ≡ Some all))
    → Agrees (image_of o) (sectors_in image)
agrees_at None held image given is = refl
agrees_at (Some all) held image given is =
    let x = is all refl in
    let read : image ≡ take 174849 all = subst (λ h. IfSome h (λ all. image ≡ take 174849 all)) x.1 given in
    let n : length all ≡ 174848 = read_whole all image read x.0 in
    ap (λ o. kept_or o (sectors_in image)) (image_of-size all n)
    ∙ sym (ap sectors_in (read ∙ take_all 174849 all (omega (arith, n))))
