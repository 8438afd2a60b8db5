-- What is shown of a shop's image, and why an image isn't shown. All of it is our own.
use Rattle.std.specs.Prelude.{◌≡◌, ◌≢◌, ℕ, List, Option, length}
use Rattle.std.specs.Io.KnownBytes.{Appends}
use Rattle.d64_image.specs.Memory.{sectors_in}
use Rattle.host_session.specs.declared.faults.OpenFault.{OpenFault}
use Rattle.host_session.specs.session.Opening.{IsAShop, Refuses}
use Rattle.host_session.specs.shop.Shop.{IsShop, Shop}
use Rattle.shop_commands.specs.Faults.{opening_fault}
use Rattle.shop_commands.specs.Shows.{shown_shop}
use Rattle.command_faults.specs.declared.faults.CommandFault.{CommandFault}
use Rattle.command_faults.specs.declared.faults.CommandFault.TheVariants as faults

-- the image is a shop's, and what is shown of that was handed over on an output that held `old` and holds `new`
pub record IsShown {W : Type 0} (contents : W → Option (List ℕ)) (image : List ℕ) (old new : W) : Type 0 where
  pub size : length image ≡ 174848
  pub shop : Shop
  pub is_shop : IsShop (sectors_in image) shop
  pub printed : Appends (contents old) (contents new) (shown_shop shop.top shop.state)

-- an image of the size of a disk is no shop's, for this fault: it holds, and none that is checked before it
pub record IsOpenRefusal (image : List ℕ) (fault : CommandFault) : Type 0 where
  pub size : length image ≡ 174848
  pub opening : OpenFault
  pub is : opening_fault opening ≡ fault
  -- memory doesn't fail
  pub refuses : Refuses ⊥ (sectors_in image) opening

-- why an image isn't shown: its size, memory, the output, or that it is no shop's
abbrev pub IsShowFault : List ℕ → CommandFault → Type 0
IsShowFault image faults.ImageSize = length image ≢ 174848
IsShowFault image faults.NoMemory = length image ≡ 174848
IsShowFault image faults.File = (length image ≡ 174848) × IsAShop (sectors_in image)
IsShowFault image fault = IsOpenRefusal image fault
