-- What opening finds before it writes: files by their names, the top, and faults of the layout.
use Rattle.std.specs.Prelude.{IfNone, IfSome, None, Option, Some, codes, length}
use Rattle.disk_layout.specs.Records.{records}
use Rattle.host_session.specs.declared.shop.files.LedgerFiles.{LedgerFiles}
use Rattle.host_session.specs.shop.Files.{Files}
use Rattle.std.proofs.Common.{ℕ, ◌≡◌, ◌≢◌, ◌+◌, ◌-◌, ◌/◌, List, arith, refl, subst, sym, ◌∙◌, ap}
use Rattle.d64_image.specs.Images.{Image}
use Rattle.disk_layout.proofs.lemmas.blank.Tops.{IsTop-last}
use Rattle.disk_layout.proofs.lemmas.layouts.Uniques.{IsFirst-one}
use Rattle.disk_layout.specs.Layout.{File, IsLayout, Layout, record_length}
use Rattle.disk_layout.specs.Room.{IsTop}
use Rattle.disk_layout.specs.Rest.{IsFirst, rest_of, taken_by_others}
use Rattle.rel_records.specs.File.{IsFileOf, entry_of, length_of}
use Rattle.rel_records.specs.declared.rel_file.RelFile.{RelFile}
use Rattle.request_cards.specs.Trade.{last_card}
use Rattle.host_session.specs.session.Opening.{HasFileOf, LacksFileOf}
use Rattle.host_session.specs.shop.Found.{AreFilesOf, IsFileNamed}

module _ (img : Image) (l : Layout) (h : IsLayout img l) (name : List ℕ) (long : ℕ) (v : RelFile) (found : (f : File)
    × IsFirst l name (entry_of v) f × IsFileOf img l (entry_of v) f v) where
  pub named-found : length_of v ≡ long → IsFileNamed img l name long v
  named-found e = record { file = found.0; first = found.1; of = found.2; is_long = sym found.2.shows.size ∙ e }

  pub named-lacks : length_of v ≢ long → LacksFileOf img name long
  named-lacks ne = record {
    layout = l;
    is_layout = h;
    other = λ place file first e. ne (found.2.shows.size
        ∙ ap (λ (f : File). record_length f.slot) (IsFirst-one l name (entry_of v) place found.0 file found.1 first).1
        ∙ e);
  }

-- so many sectors are open to a file: its greatest record number
pub top-of : (l : Layout) (n outside : ℕ) → outside + taken_by_others l n ≡ 664
    → IsTop l n (last_card (outside - (outside + 120) / 121))
top-of l n outside e = IsTop-last l n (last_card (outside - (outside + 120) / 121))
    (record { number = omega (arith, e); blocks = omega (arith, e); room = omega (arith, e) })
    (λ fits. omega (arith, e, fits.room))

-- a file that was found, as the judging of opening says it
pub has-file : (img : Image) (l : Layout) (name : List ℕ) (long : ℕ) (v : RelFile) → IsLayout img l
    → IsFileNamed img l name long v → HasFileOf img name long
has-file img l name long v h x = record {
  layout = l;
  is_layout = h;
  place = entry_of v;
  file = x.file;
  first =
      x.first;
  is_long = x.is_long;
}

-- the files of both, with the records that they have
pub files-found : (img : Image) (l : Layout) (x : LedgerFiles) → IsLayout img l
    → IsFileNamed img l (codes "STOCK") 18 x.stock → IsFileNamed img l (codes "REQUESTS") 127 x.requests
    → IsTop l (entry_of x.stock) x.top → (f : Files) × AreFilesOf img f x
files-found img l x h s r t = (
  record {
    stock = records img s.file;
    requests = records img r.file;
    blocks = length s.file.blocks;
    rest = rest_of img l (entry_of x.stock) (entry_of x.requests) r.file;
    top = x.top;
  },
  record {
    has = record {
      layout = l;
      is_layout = h;
      stock_place = entry_of x.stock;
      requests_place = entry_of x.requests;
      stock_file = s.file;
      requests_file = r.file;
      stock_first = s.first;
      requests_first = r.first;
      stock_length = s.is_long;
      requests_length = r.is_long;
      stock = refl;
      requests = refl;
      blocks = refl;
      rest = refl;
      top = t;
    };
    stock_of = s.of;
    requests_of = r.of;
    top_is = refl;
  },
)

-- what was found in an image that is the same
pub named-some : (a b : Image) (l : Layout) (name : List ℕ) (long : ℕ) (o : Option RelFile) (v : RelFile) → b ≡ a
    → o ≡ Some v → IsLayout a l
    → ((k : Layout) → IsLayout b k → IfSome o (IsFileNamed b k name long)) → IsFileNamed a l name long v
named-some a b l name long o v same is h found =
    let P : Image → Type 0 = λ i. IsLayout i l → IfSome o (IsFileNamed i l name long) in
    subst (λ (x : Option RelFile). IfSome x (IsFileNamed a l name long)) is (subst P same (found l) h)

pub lacks-none : (a b : Image) (name : List ℕ) (long : ℕ) (o : Option RelFile) → b ≡ a → ((v : RelFile) → o ≢ Some v)
    → IfNone o (LacksFileOf b name long) → LacksFileOf a name long
lacks-none a b name long None same none h = subst (λ (i : Image). LacksFileOf i name long) same h
lacks-none a b name long (Some v) same none h = absurd (none v refl)

pub top-at : (l : Layout) (v : RelFile) (n r : ℕ) → n ≡ entry_of v → IsTop l n r → IsTop l (entry_of v) r
top-at l v n r e h = subst (λ (k : ℕ). IsTop l k r) e h
