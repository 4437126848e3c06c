-- The packets that a client receives for those of a response, one list after another; and those of a response in the ordinary form, which are all of
-- them.
use Rattle.std.proofs.Common.{◌≡◌, Bool, true, false, List, [], ◌∷◌, ◌++◌, map, codes, if◌then◌else◌, Option, Some, Result, Ok}
use Rattle.std.proofs.Common.{refl, sym, ap, ◌∙◌, append_assoc}
use Rattle.git_names.specs.declared.object_format.Format.{Format}
use Rattle.git_pkt.specs.Packets.{Pkt, flush, delim, resp_end, payload, text_of}
use Rattle.git_pkt.specs.Splits.{Given}
use Rattle.git_pkt.specs.declared.fault.Kind.{Kind}
use Rattle.std.specs.Str.{bytes_eq}
use Rattle.git2show_lib.specs.Sieve.{ArePassed, begins_uris, passes_line, received_as, sieved_from, sieved_packet}
use Rattle.git2show_lib.specs.Sieve.{spot_after, spot_at_line, spot_next, unbanded}
use Rattle.git2show_lib.specs.declared.sieve.Form.{Form}
use Rattle.git2show_lib.specs.declared.sieve.Spot.{Spot}
use Rattle.git2show_lib.specs.declared.sieve.Spot.TheVariants.{Header, Lines, Uris, AfterUris, Packfile}

-- ---- one list after another

pub spot_then : (form : Form) (spot : Spot) (gs hs : List Given) → spot_after form spot (gs ++ hs) ≡ spot_after form (spot_after form spot gs) hs
spot_then form spot [] hs = refl
spot_then form spot (g ∷ gs) hs = spot_then form (spot_next form spot g.packet) gs hs

pub sieved_then : (form : Form) (spot : Spot) (gs hs : List Given)
    → sieved_from form spot (gs ++ hs) ≡ sieved_from form spot gs ++ sieved_from form (spot_after form spot gs) hs
sieved_then form spot [] hs = refl
sieved_then form spot (g ∷ gs) hs =
    let first = received_as (sieved_packet form spot g.packet) in
    let next = spot_next form spot g.packet in
    ap (λ (l : List Pkt). first ++ l) (sieved_then form next gs hs)
    ∙ sym (append_assoc first (sieved_from form next gs) (sieved_from form (spot_after form next gs) hs))

pub passed_then : (form : Form) (spot : Spot) (gs hs : List Given) → ArePassed form spot gs → ArePassed form (spot_after form spot gs) hs
    → ArePassed form spot (gs ++ hs)
passed_then form spot [] hs first later = later
passed_then form spot (g ∷ gs) hs first later = (first.0, passed_then form (spot_next form spot g.packet) gs hs first.1 later)

-- ---- the ordinary form

-- the places of a response in the ordinary form
abbrev is_usual : Spot → Bool
is_usual Header = true
is_usual Lines = true
is_usual Uris = false
is_usual AfterUris = false
is_usual Packfile = true

module _ (format : Format) where
  abbrev pub usual_form : Form
  usual_form = record { format = format; uris = false; on_bands = false }

  -- a packet is passed on as it is
  record PassesOn (spot : Spot) (packet : Pkt) : Type 0 where
    as_it_is : sieved_packet usual_form spot packet ≡ Ok (Some packet)
    usual : is_usual (spot_next usual_form spot packet) ≡ true

  passes_on : (spot : Spot) (packet : Pkt) → is_usual spot ≡ true → PassesOn spot packet
  unfolding unbanded passes_line begins_uris spot_at_line
  passes_on Uris packet usual = absurd (cc)
  passes_on AfterUris packet usual = absurd (cc)
  passes_on Header flush usual = record { as_it_is = refl; usual = refl }
  passes_on Header delim usual = record { as_it_is = refl; usual = refl }
  passes_on Header resp_end usual = record { as_it_is = refl; usual = refl }
  passes_on Header (payload bytes) usual = record { as_it_is = refl; usual = either (bytes_eq (text_of bytes) (codes "packfile")) }
    where
      either : (b : Bool) → is_usual (if b then Packfile else Lines) ≡ true
      either true = refl
      either false = refl
  passes_on Lines flush usual = record { as_it_is = refl; usual = refl }
  passes_on Lines delim usual = record { as_it_is = refl; usual = refl }
  passes_on Lines resp_end usual = record { as_it_is = refl; usual = refl }
  passes_on Lines (payload bytes) usual = record { as_it_is = refl; usual = refl }
  passes_on Packfile flush usual = record { as_it_is = refl; usual = refl }
  passes_on Packfile delim usual = record { as_it_is = refl; usual = refl }
  passes_on Packfile resp_end usual = record { as_it_is = refl; usual = refl }
  passes_on Packfile (payload bytes) usual = record { as_it_is = refl; usual = refl }

  -- the client receives all packets, and none is refused
  pub record ComesWhole (spot : Spot) (gs : List Given) : Type 0 where
    pub same : sieved_from usual_form spot gs ≡ map (λ g. g.packet) gs
    pub passed : ArePassed usual_form spot gs

  pub comes_whole : (spot : Spot) (gs : List Given) → is_usual spot ≡ true → ComesWhole spot gs
  comes_whole spot [] usual = record { same = refl; passed = tt }
  comes_whole spot (g ∷ gs) usual =
      let first = passes_on spot g.packet usual in
      let later = comes_whole (spot_next usual_form spot g.packet) gs first.usual in
      record {
        same = ap (λ (r : Result (Option Pkt) Kind). received_as r ++ sieved_from usual_form (spot_next usual_form spot g.packet) gs) first.as_it_is
            ∙ ap (λ (l : List Pkt). g.packet ∷ l) later.same;
        passed = (record { passed_as = Some g.packet; is = first.as_it_is }, later.passed);
      }
