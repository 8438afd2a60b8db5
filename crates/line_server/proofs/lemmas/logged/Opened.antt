-- A session that was opened over memory, or refused.
use Rattle.std.proofs.Common.{◌≡◌, ◌∙◌, ◌↔◌, [], Err, None, ap, arith, false, inl, refl, subst, sym}
use Rattle.std.specs.Prelude.{slice_index_or}
use Rattle.std.proofs.KnownBytes.{Consumes-nil}
use Rattle.d64_image.specs.History.{Failed, NeverFailed}
use Rattle.d64_image.specs.Images.{Image}
use Rattle.d64_image.specs.Memory.{disk_image}
use Rattle.d64_image.specs.declared.mem_disk.MemDisk.{MemDisk}
use Rattle.disk_layout.specs.Whole.{IsWhole}
use Rattle.host_session.proofs.lemmas.shop.Shops.{IsShop-one}
use Rattle.host_session.specs.declared.faults.OpenFault.{OpenFault}
use Rattle.host_session.specs.declared.faults.OpenFault.TheVariants as opening
use Rattle.host_session.specs.declared.runs.event_loop.LoopFault.{LoopFault}
use Rattle.host_session.specs.declared.runs.event_loop.LoopFault.TheVariants as faults
use Rattle.host_session.specs.Held.{Changes}
use Rattle.host_session.specs.session.Opening.{IsAShop, Refuses, Untouched}
use Rattle.host_session.specs.session.Standing.{View}
use Rattle.host_session.specs.shop.Shop.{IsSettled, IsShop, Shop}
use Rattle.line_server.specs.Batches.{BatchInput}
use Rattle.image_log.specs.ImageLogs.{LogHistory}
use Rattle.image_log.specs.Touched.{touched_disk}
use Rattle.line_server.specs.logged.Batches.{HasOpened}
use Rattle.line_server.specs.logged.Memory.{Memory, image_of, in_memory}
use Rattle.line_server.specs.logged.Reporting.{LogOutput}
use Rattle.line_server.specs.logged.Serves.{IsServedOver}

pub opened : (disk : MemDisk) (begins : Memory) (session : View Memory) (kept : Image) → touched_disk begins ≡ disk
    → kept ≡ disk_image disk → (t : Shop) → IsShop (image_of begins) t → IsSettled (image_of session.disk) t
    → session.dead ≡ false
    → ((s : Shop) → IsShop (image_of begins) s → Changes in_memory begins session.disk 952 (λ c. IsShop c s))
    → ((s : Shop) → IsSettled (image_of begins) s → Untouched in_memory begins session.disk)
    → HasOpened disk session kept
opened disk begins session kept is kept_is t shop rests alive moments quiet =
    let image : image_of begins ≡ disk_image disk = ap disk_image is in
    record {
      kept_is = kept_is;
      shop = (t, subst (λ (i : Image). IsShop i t) image shop);
      rests = λ s other. record {
        alive = alive;
        rests = subst (IsSettled (image_of session.disk))
            (IsShop-one (image_of begins) t s shop (subst (λ (i : Image). IsShop i s) (sym image) other)) rests;
      };
      covers = (moments t shop).held.reached.1 (disk_image disk)
          (λ index low none. ap (λ (i : Image). slice_index_or i index []) (sym image));
      files = λ whole. ((moments t shop).held.whole (subst IsWhole (sym image) whole)).each (image_of session.disk) refl;
      quiet = λ s settled. sym ((quiet s (subst (λ (i : Image). IsSettled i s) (sym image) settled)).held.each
          (image_of session.disk) refl ∙ image);
    }

-- memory never fails, so the fault is one of the image
refuses_in_memory : (begins ends : Memory) (image : Image) (fault : OpenFault)
    → Refuses (Failed in_memory begins ends) image fault → Refuses ⊥ image fault
refuses_in_memory begins ends image (opening.Layout f) is = is
refuses_in_memory begins ends image opening.NoStock is = is
refuses_in_memory begins ends image opening.NoRequests is = is
refuses_in_memory begins ends image (opening.BadCard n) is = is
refuses_in_memory begins ends image (opening.BadRequestCard n) is = is
refuses_in_memory begins ends image opening.TwoIntents is = is
refuses_in_memory begins ends image opening.Device is = omega (arith, is.rose (omega arith))

open_one : (f g : OpenFault) → ◌≡◌ {A = LoopFault} (faults.Open f) (faults.Open g) → f ≡ g
open_one f g same = cc

pub refused : {L R T : Type 0} (h : LogHistory L) (i : BatchInput R) (o : LogOutput L T) (disk left : MemDisk)
    (begins ends : Memory) (log : L) (input : R) (out : T) (fault : OpenFault) → touched_disk begins ≡ disk
    → touched_disk ends ≡ left
    → (IsAShop (image_of begins) → ⊥) → Refuses (Failed in_memory begins ends) (image_of begins) fault
    → Untouched in_memory begins ends
    → IsServedOver h i o disk log log input input out out (Err (faults.Open fault, left))
refused h i o disk left begins ends log input out fault is gone none refuses untouched =
    let no_shop : (s : Shop) → IsShop (disk_image disk) s → ⊥ =
    λ s shop. none (s, subst (λ (d : MemDisk). IsShop (disk_image d) s) (sym is) shop) in
    record {
      handled = [];
      rest = [];
      whole = inl refl;
      lacks = tt;
      read = Consumes-nil (i.remaining input);
      turns = [];
      last = None;
      told = o.none out;
      replies_are = λ s shop. absurd (no_shop s shop);
      safe = λ s shop. absurd (no_shop s shop);
      all = λ e. cc;
      handed = λ e. inl refl;
      rests = λ s shop. absurd (no_shop s shop);
      files = λ whole. tt;
      shop = tt;
      end = tt;
      quiet = λ s settled. absurd (no_shop s settled.shop);
      «open» = λ f e. (
        λ shop. no_shop shop.0 shop.1,
        subst (λ (f : OpenFault). Refuses ⊥ (disk_image disk) f) (open_one fault f e)
            (subst (λ (d : MemDisk). Refuses ⊥ (disk_image d) fault) is
            (refuses_in_memory begins ends (image_of begins) fault refuses)),
        ap disk_image (sym gone) ∙ untouched.held.each (image_of ends) refl ∙ ap disk_image is,
        refl,
        refl,
        refl,
      );
      input = λ e. cc;
      device = λ e. cc;
      output = λ e. cc;
    }

-- Memory never fails, so what isn't opened is no shop's.
pub no_shop_here : (begins ends : Memory) (is_opened : Type 0) → (is_opened → ⊥)
    → (NeverFailed in_memory begins ends → (is_opened ↔ IsAShop (image_of begins))) → IsAShop (image_of begins) → ⊥
no_shop_here begins ends is_opened closed x shop =
    closed ((x (record { same = refl; not_spent = omega arith })).1 shop)
