-- What a call that judges tells of the disk, through calls that only read.
use Rattle.std.proofs.Common.{ℕ, ◌≡◌, ◌⊎◌, ⊎_elim, ◌+◌, Err, Ok, Result, inr, subst, sym}
use Rattle.d64_image.proofs.Moments.{failed_later}
use Rattle.d64_image.proofs.Told.{told_after}
use Rattle.d64_image.specs.History.{Failed, History}
use Rattle.d64_image.specs.Images.{Image}
use Rattle.host_session.specs.shop.Files.{Files, HasFiles}
use Rattle.host_session.specs.shop.Found.{AreFilesOf}
use Rattle.host_session.specs.shop.LoadedShop.{HasJudgedTills, IsCountedTo, IsReadTo}
use Rattle.host_session.specs.session.Opening.{IsBadCard, IsBadTill, Refuses, TellsJudging, of_device}
use Rattle.host_session.specs.declared.faults.OpenFault.{OpenFault}
use Rattle.host_session.specs.declared.faults.OpenFault.TheVariants as faults
use Rattle.host_session.specs.declared.shop.files.LedgerFiles.{LedgerFiles}
use Rattle.host_session.specs.declared.shop.intents.NewQuantities.{NewQuantities}
use Rattle.host_session.proofs.lemmas.judging.StockTables.{card-lowest}
use Rattle.host_session.proofs.lemmas.judging.TillTables.{till-lowest}
use Rattle.request_cards.specs.CardTexts.{Card}
use Rattle.std.specs.Prelude.{IfErr, List, OnErr, Option, ◌≤◌}

-- the two files are there as long as nothing is written
pub files-still : (a b : Image) (f : Files) (x : LedgerFiles) → b ≡ a → AreFilesOf a f x → AreFilesOf b f x
files-still a b f x same h = subst (λ (i : Image). AreFilesOf i f x) (sym same) h

-- calls that met no failure come before one that judges
pub judged-later : {D T : Type 0} (S : History D) (a b c : D) (result : Result T OpenFault)
    → S.failures b ≡ S.failures a → TellsJudging S b c result → TellsJudging S a c result
judged-later S a b c result same told = told_after S of_device a b c result same told

-- and an error is handed on
pub judged-error : {D B : Type 0} (A : Type 0) (S : History D) (a b c : D) (fault : OpenFault)
    (result : Result B OpenFault) → result ≡ Err fault → S.failures b ≡ S.failures a
    → TellsJudging {T = A} S b c (Err fault) → TellsJudging S a c result
judged-error {B = B} A S a b c fault result e same told =
    subst (λ (r : Result B OpenFault). TellsJudging S a c r) (sym e)
    (judged-later {T = B} S a b c (Err fault) same told)

-- what is refused after calls that only read is refused of the disk that they read
pub refused-error : {D B : Type 0} (S : History D) (a b c : D) (fault : OpenFault) (result : Result B OpenFault)
    → result ≡ Err fault → S.image b ≡ S.image a → S.failures b ≡ S.failures a
    → Refuses (Failed S b c) (S.image b) fault → IfErr result (Refuses (Failed S a c) (S.image a))
refused-error {B = B} S a b c fault result e image same refused =
    let here : Refuses (Failed S b c) (S.image a) fault = subst (λ (i : Image). Refuses (Failed S b c) i fault) image
    refused in
    subst (λ (r : Result B OpenFault). IfErr r (Refuses (Failed S a c) (S.image a))) (sym e) (by fault here)
  where
    by : (x : OpenFault) → Refuses (Failed S b c) (S.image a) x → Refuses (Failed S a c) (S.image a) x
    by (faults.Layout f) h = h
    by faults.NoStock h = h
    by faults.NoRequests h = h
    by (faults.BadCard r) h = h
    by (faults.BadRequestCard t) h = h
    by faults.TwoIntents h = h
    by faults.Device h = failed_later S a b c same h

-- a call that can tell the device alone, behind calls that met no failure
pub device-error : {D B : Type 0} (S : History D) (img : Image) (a b c : D) (fault : OpenFault)
    (result : Result B OpenFault) → result ≡ Err fault → fault ≡ faults.Device
    → S.failures b ≡ S.failures a → Failed S b c → IfErr result (Refuses (Failed S a c) img) × TellsJudging S a c result
device-error S img a b c fault result e device same failed =
    let told = failed_later S a b c same failed in
    rw (e, device) (told, told)

-- Device is told where the device failed
pub judged-device : {D : Type 0} (T : Type 0) (S : History D) (a b : D) (fault : OpenFault)
    → TellsJudging {T = T} S a b (Err fault) → fault ≡ faults.Device → Failed S a b
judged-device T S a b fault told e = subst (λ (x : OpenFault). TellsJudging {T = T} S a b (Err x)) e told

-- a fault of the record behind those that were read is the first
pub till-refused : (failed : Type 0) (img : Image) (f : Files) (n : ℕ) (table : List (Option Card)) → n ≤ 64
    → HasFiles img f → IsReadTo f n table → (fault : OpenFault) → (fault ≡ faults.Device → failed)
    → (fault ≡ faults.Device) ⊎ ((fault ≡ faults.BadRequestCard (n + 1)) × IsBadTill f (n + 1))
    → Refuses failed img fault
till-refused failed img f n table few has h fault device found = ⊎_elim
    (λ e. subst (Refuses failed img) (sym e) (device e))
    (λ (e, bad). subst (Refuses failed img) (sym e) (f, has, till-lowest f n table few h bad))
    found

pub card-refused : (failed : Type 0) (img : Image) (f : Files) (x : NewQuantities) (h : HasJudgedTills f x) (n : ℕ)
    (table : List (Option ℕ)) → n ≤ 10160 → HasFiles img f → IsCountedTo f n table → (fault : OpenFault)
    → (fault ≡ faults.Device → failed)
    → (fault ≡ faults.Device) ⊎ ((fault ≡ faults.BadCard (n + 1)) × IsBadCard f (n + 1)) → Refuses failed img fault
card-refused failed img f x h n table few has c fault device found = ⊎_elim
    (λ e. subst (Refuses failed img) (sym e) (device e))
    (λ (e, bad). subst (Refuses failed img) (sym e) (f, has, h.no_bad_till, h.few, card-lowest f x h n table few c bad))
    found

-- a fault of the judgment of what was read, beside the device's
pub own-fault : {T : Type 0} (r : Result T OpenFault) (fault : OpenFault) (P : Type 0) → IfErr r (λ x. x ≡ fault)
    → OnErr r P → IfErr r (λ x. (x ≡ faults.Device) ⊎ ((x ≡ fault) × P))
own-fault (Ok x) fault P is bad = tt
own-fault (Err x) fault P is bad = inr (is, bad)

-- a judgment of what was read without a failure
pub judged-own : {D T : Type 0} (S : History D) (a b : D) (r : Result T OpenFault) (fault : OpenFault)
    → IfErr r (λ x. x ≡ fault) → S.failures b ≡ S.failures a → TellsJudging {T = T} S a b (Err fault)
    → TellsJudging S a b r
judged-own S a b (Ok x) fault is same told = same
judged-own {T = T} S a b (Err x) fault is same told = subst (λ (y : OpenFault). TellsJudging {T = T} S a b (Err y))
    (sym is) told
