-- A device in the place of a file: it keeps what it holds. Our own.
use Rattle.std.specs.Prelude.{Some}
use Rattle.std.proofs.Common.{ap, subst, sym}
use Rattle.d64_image.specs.History.{History}
use Rattle.d64_image.specs.Images.{IsImage}
use Rattle.d64_image.specs.Keeps.{Keeps, kept_or}
use Rattle.d64_image.specs.declared.device_as_file.DeviceAsFile.{DeviceAsFile}

-- the device
abbrev pub kept_disk : {D : Type 0} → DeviceAsFile D → D
kept_disk f = f.disk

-- what it keeps, kept and failed at is the device's
abbrev pub keeps_device : {D : Type 0} → History D → Keeps (DeviceAsFile D)
keeps_device h = record {
  kept = λ f. Some (h.image f.disk);
  moment = λ f. h.moment f.disk;
  held = λ f. h.held f.disk;
  writes = λ f. h.writes f.disk;
  failures = λ f. h.failures f.disk;
  last = h.last;
  whole = λ f c e. subst IsImage (ap (λ o. kept_or o c) e) (h.whole f.disk);
  now = λ f t le c e. subst (h.held f.disk t) (ap (λ o. kept_or o c) e) (h.now f.disk t le);
  only_now = λ f c held. ap Some (sym (h.only_now f.disk c held));
  up_to_last = λ f. h.up_to_last f.disk;
  reached = λ a b. h.reached a.disk b.disk;
  reached_same = λ f. h.reached_same f.disk;
  reached_then = λ a b c. h.reached_then a.disk b.disk c.disk;
}
