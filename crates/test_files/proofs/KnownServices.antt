-- A snapshot meets the premises of what is told of a service.
use Rattle.std.proofs.Common.{◌≡◌, ◌∙◌, [], ◌∷◌, ℕ, List, ap, arith, inl, inr, refl, subst, sym}
use Rattle.std.proofs.lemmas.Bool.{false≢true}
use Rattle.std.proofs.lemmas.List.{take_all}
use Rattle.std.specs.Prelude.{◌⊎◌, ◌++◌, Err, IfSome, None, Ok, Option, Some, length, option_map, option_to_list, take}
use Rattle.std.specs.declared.io.traits.Read.{Ghosts as ReadGhosts}
use Rattle.std.specs.declared.io.traits.Seek.{Ghosts as SeekGhosts}
use Rattle.command_faults.specs.declared.faults.CommandFault.TheVariants as faults
use Rattle.d64_image.specs.Images.{Image}
use Rattle.d64_image.specs.Memory.{sectors_in}
use Rattle.host_session.specs.shop.Shop.{Shop}
use Rattle.image_file.specs.declared.paths.host.HostFiles.{Ghosts as HostGhosts}
use Rattle.image_log.specs.declared.life.image_folder.ImageFolder.{ImageFolder}
use Rattle.image_log.specs.declared.life.live_log.LiveLog.{LiveLog}
use Rattle.image_log.specs.declared.life.mem_folder.MemFolder.{MemFolder}
use Rattle.image_log.specs.declared.life.system_log.SystemLog.{SystemLog}
use Rattle.image_log.specs.life.FolderCalls.{began}
use Rattle.image_log.specs.life.Folders.{Folder}
use Rattle.image_log.specs.life.LiveLogs.{IsBeginning, IsEnding, of_live}
use Rattle.image_log.specs.life.Shops.{Gives, GivesOneOf}
use Rattle.image_log.specs.life.Tags.{untagged_image}
use Rattle.image_log.specs.life.Untagged.{untagged_folder}
use Rattle.line_server.specs.Scripts.{crlf_text}
use Rattle.line_server.specs.logged.Serves.{HoldsFirst, IsSafe, shop_behind}
use Rattle.line_text.specs.scripts.Lines.{lines}
use Rattle.opened_files.specs.Ends.{JobEnd}
use Rattle.shop_jobs.specs.KeptServices.{IsBegunIn, IsFolderAt, IsPlayKept, IsServedIn, IsServiceAt, IsServiceKept}
use Rattle.request_cards.specs.declared.reply.Reply.{Reply}
use Rattle.shop_jobs.proofs.KeptTold.{answered-all}
use Rattle.shop_jobs.proofs.ServiceMoments.{service_leaves}
use Rattle.shop_jobs.specs.JobOutputs.{ArePassed, OverLogs, lines_over}
use Rattle.shop_jobs.specs.LandedRuns.{HasLanded, IsServedOut, LeavesShops, StandsAtRest}
use Rattle.shop_jobs.specs.Replies.{IsShopOf}
use Rattle.disk_layout.specs.declared.faults.Fault.{Fault}
use Rattle.test_files.proofs.SnapshotPremises.{text-other}
use Rattle.test_files.specs.KnownFolders.{IsFresh, held_in, left_in, snapshot_folders, snapshot_logs, snapshot_traces}
use Rattle.test_files.specs.KnownServices.{HasServed, HasStopped, KeepsAnswers, LeavesShop}
use Rattle.test_files.specs.Snapshots.{image_path, snapshot_rights, snapshot_stands, text_path}
use Rattle.test_files.specs.declared.snapshots.host.Snapshot.{Snapshot}
use Rattle.test_files.specs.declared.snapshots.open_file.SnapshotFile.{SnapshotFile}

one-of : (image : Image) → GivesOneOf (image ∷ []) (began image None)
one-of image = (image, (0, omega arith, refl), refl)

-- the bytes of a host's image are those that were read of it
whole : (host : Snapshot) (image : List ℕ) → length host.image.now ≡ 174848 → image ≡ take 174849 host.image.now
    → image ≡ host.image.now
whole host image size is = is ∙ take_all 174849 host.image.now (omega (arith, size))

module _ {W : Type 0} (g : HostGhosts Snapshot SnapshotFile) (r : ReadGhosts SnapshotFile) (s : SeekGhosts SnapshotFile)
    (contents : W → Option (List ℕ)) (o : OverLogs W) (host : Snapshot) (shop : Shop) (is : IsShopOf host.image.now shop) where
  abbrev Folders : Type 0
  Folders = ImageFolder Snapshot SnapshotFile g r s

  abbrev Live : Type 0
  Live = LiveLog (SystemLog Snapshot SnapshotFile g r s) Folders (record { history = snapshot_logs g r s })

  -- what it gives, without the tag
  abbrev first : Image
  first = untagged_image (sectors_in host.image.now)

  fresh-gives : (found : Option MemFolder) → IsFresh host found
      → (option_map untagged_folder (held_in found) ≡ Some (began first None))
      × ((t : Folder) → (raw : Folder) × left_in found raw × (t ≡ untagged_folder raw) → GivesOneOf (first ∷ []) t)
  fresh-gives found fresh = (
    ap (λ o. option_map untagged_folder (held_in o)) fresh.1 ∙ ap (option_map untagged_folder) fresh.2,
    λ t may. subst (GivesOneOf (first ∷ []))
        (sym (may.2 ∙ ap untagged_folder (fresh.3 may.0 (subst (λ (o : Option MemFolder). left_in o may.0) fresh.1 may.1))))
        (one-of first),
  )

  -- the folder that was landed
  of-folder : (image : List ℕ) → image ≡ host.image.now → (left : Live) (ls : List (List ℕ)) (opened : Folders)
      → IsFresh host opened.at.image.folder → (begun : Live)
      → IsBeginning (snapshot_folders g r s) opened begun (λ t. Gives t (sectors_in image)) → (turns : List (Reply × Live))
      → IsSafe (of_live (snapshot_folders g r s)) shop (sectors_in image) ls turns begun left → (folder : Option Folders)
      → HasLanded (snapshot_folders g r s) (shop_behind shop ls) folder
      → (at : StandsAtRest (snapshot_folders g r s) (shop_behind shop ls) left)
      → IfSome folder (λ d. IsEnding (snapshot_folders g r s) left d at.0) → LeavesShop g r s host shop ls
  of-folder image image-is left ls opened fresh begun beginning turns safe None landed at ending = absurd landed
  of-folder image image-is left ls opened fresh begun beginning turns safe (Some folder) landed at ending = record {
    opened = opened;
    fresh = fresh;
    folder = folder;
    moments = subst
        (λ (bytes : List ℕ). LeavesShops (snapshot_folders g r s) opened folder
        (λ c. (c ≡ sectors_in bytes) ⊎ HoldsFirst shop ls 0 c))
        image-is
        (service_leaves (snapshot_folders g r s) opened begun left folder shop (sectors_in image) at.0 ls turns beginning safe
        ending at.1);
    landed = landed;
  }

  abbrev Told : W → W → List (Reply × Live) → Option (Reply × Live) → Type 0
  Told old new = ArePassed (lines_over contents (o Live)) old new

  -- a service that ended well, or whose input or output failed
  leaves : (given : Option (List ℕ)) (old new : W) (end : JobEnd) → IsServedOut end → (image : List ℕ)
      → image ≡ take 174849 host.image.now → (begun : Live)
      → IsBegunIn (snapshot_folders g r s) (λ d. IsFolderAt snapshot_rights snapshot_traces host image_path d) image begun
      → (x : IsServedIn (snapshot_folders g r s) image given begun (Told old new) end) → LeavesShop g r s host shop (lines x.handled)
  leaves given old new end out image read begun (folder, at, known) x =
      let image-is = whole host image is.0 read in
      let fresh = at.2 refl is.0 in
      let gives = fresh-gives folder.at.image.folder fresh in
      let stood = known first (began first None) gives.0 (one-of first) gives.1 in
      let is-shop : IsShopOf image shop = subst (λ (bytes : List ℕ). IsShopOf bytes shop) (sym image-is) is in
      let landed = x.done out shop is-shop stood.0 in
      of-folder image image-is x.left (lines x.handled) folder fresh begun stood.2 (x.turns ++ option_to_list x.last)
      (x.safe shop is-shop stood.0)
      x.folder landed.0 landed.1 (x.landing landed.1.0 landed.1.2)

  service : (input : List ℕ) (old new : W) (found : Option Fault)
      → IsServiceAt g r s snapshot_logs snapshot_folders snapshot_stands snapshot_rights snapshot_traces contents o (Some input)
      host image_path old new (Ok found) → HasServed g r s host shop input contents old new
  service input old new found (image, of, begun, begun-in, x) =
      let read = of host.image.now refl in
      let is-shop : IsShopOf image shop = subst (λ (bytes : List ℕ). IsShopOf bytes shop) (sym (whole host image is.0 read)) is in
      record {
        handled = x.handled;
        rest = x.rest;
        all = x.all input refl;
        whole = x.whole;
        lacks = x.lacks;
        told = answered-all (snapshot_folders g r s) contents (o Live) image (Some input) begun old new found x shop is-shop;
        left = leaves (Some input) old new (Ok found) (inl refl) image read begun begun-in x;
      }

  pub served : (input : List ℕ) (old new : W) (found : Option Fault)
      → IsServiceKept g r s snapshot_logs snapshot_folders snapshot_stands snapshot_rights snapshot_traces contents o (Some input)
      host image_path old new (Ok found) → HasServed g r s host shop input contents old new
  served input old new found (inl not) = absurd (false≢true not.0)
  served input old new found (inr at) = service input old new found at

  pub stopped : (input : List ℕ) (old new : W)
      → IsServiceKept g r s snapshot_logs snapshot_folders snapshot_stands snapshot_rights snapshot_traces contents o (Some input)
      host image_path old new (Err faults.File) → (new ≡ old) ⊎ HasStopped g r s host shop input
  stopped input old new (inl not) = inl not.1
  stopped input old new (inr (image, of, begun, begun-in, x)) =
      let y = x.read input refl in
      inr (record {
        handled = x.handled;
        rest = x.rest;
        later = y.0;
        read = y.1;
        whole = x.whole;
        lacks = x.lacks;
        left = leaves (Some input) old new (Err faults.File) (inr refl) image (of host.image.now refl) begun begun-in x;
      })

  pub played : (old new : W) (found : Option Fault)
      → IsPlayKept g r s snapshot_logs snapshot_folders snapshot_stands snapshot_rights snapshot_traces contents o host
      image_path text_path old new (Ok found) → HasServed g r s host shop (crlf_text (lines host.text.now)) contents old new
  played old new found (inl not) = absurd (false≢true not.0)
  played old new found (inr (text, of, at)) =
      service (crlf_text (lines host.text.now)) old new found
      (subst (λ (t : List ℕ). IsServiceAt g r s snapshot_logs snapshot_folders snapshot_stands snapshot_rights snapshot_traces
      contents o (Some (crlf_text (lines t))) host image_path old new (Ok found)) (of text-other host.text.now refl) at)

  -- however it ended
  pub answered : (input : List ℕ) (old new : W) (end : JobEnd)
      → IsServiceKept g r s snapshot_logs snapshot_folders snapshot_stands snapshot_rights snapshot_traces contents o (Some input)
      host image_path old new end → (new ≡ old) ⊎ KeepsAnswers g r s shop input contents o old new
  answered input old new end (inl not) = inl not.1
  answered input old new end (inr (image, of, begun, (folder, at, known), x)) =
      let image-is = whole host image is.0 (of host.image.now refl) in
      let gives = fresh-gives folder.at.image.folder (at.2 refl is.0) in
      let stood = known first (began first None) gives.0 (one-of first) gives.1 in
      let is-shop : IsShopOf image shop = subst (λ (bytes : List ℕ). IsShopOf bytes shop) (sym image-is) is in
      let y = x.read input refl in
      inr (record {
        handled = x.handled;
        rest = x.rest;
        later = y.0;
        read = y.1;
        whole = x.whole;
        lacks = x.lacks;
        left = x.left;
        turns = x.turns;
        last = x.last;
        told = x.told;
        replies_are = x.replies_are shop is-shop;
        served = (x.safe shop is-shop stood.0).told_stays;
        folder = x.folder;
        stays = x.stays shop is-shop stood.0;
      })
