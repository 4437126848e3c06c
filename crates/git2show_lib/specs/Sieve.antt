-- What a client receives of a response whose request asked for the section `packfile-uris`, or for all lines on bands (gitprotocol-v2(5)). The
-- client knows neither: it receives the other sections, and each line without its band.
use Rattle.std.specs.Prelude.{◌≡◌, ℕ, ◌+◌, ◌==◌, Bool, true, false, not, ◌&&◌, ◌||◌, Option, Some, None, List, [], ◌∷◌, ◌++◌, length, take, drop, slice_index}
use Rattle.std.specs.Prelude.{Result, Ok, Err, codes, if◌then◌else◌, nat_lt, nat_le}
use Rattle.std.specs.List.{list_all}
use Rattle.std.specs.Str.{bytes_eq}
use Rattle.git_names.specs.Digits.{digit_value}
use Rattle.git_names.specs.ObjectFormat.{digits_of}
use Rattle.git_names.specs.declared.object_format.Format.{Format}
use Rattle.git_pkt.specs.Packets.{Pkt, delim, payload, text_of}
use Rattle.git_pkt.specs.Splits.{Given}
use Rattle.git_pkt.specs.declared.fault.Kind.{Kind}
use Rattle.git_pkt.specs.declared.fault.Kind.TheVariants.{NoBand, BadBand, RemoteFatal, BadLine, UnexpectedSection}
use Rattle.git2show_lib.specs.declared.sieve.Form.{Form}
use Rattle.git2show_lib.specs.declared.sieve.Spot.{Spot}
use Rattle.git2show_lib.specs.declared.sieve.Spot.TheVariants.{Header, Lines, Uris, AfterUris, Packfile}

-- ---- lines

-- the bytes begin as an error packet does
unfoldable pub is_error_line : List ℕ → Bool
is_error_line bytes = nat_le 4 (length bytes) && bytes_eq (take 4 bytes) (codes "ERR ")

abbrev pub is_hex_digit : ℕ → Bool
is_hex_digit c = nat_lt (digit_value c) 16

-- a byte that an address may have
abbrev pub is_uri_byte : ℕ → Bool
is_uri_byte c = nat_le 32 c

-- a line of the section `packfile-uris`: as many digits as an object name has, a space, and the address
unfoldable pub is_uri_line : Format → List ℕ → Bool
is_uri_line format text =
    nat_lt (digits_of format) (length text) && (slice_index text (digits_of format) == 32) && list_all is_hex_digit (take (digits_of format) text)
    && list_all is_uri_byte (drop (digits_of format + 1) text)

-- ---- bands

-- What a payload on a band is passed on as: the line on the first band, and nothing for progress; a fatal error is refused. Git looks for an error
-- packet before it looks at the band.
unfoldable pub unbanded_line : List ℕ → Result (Option Pkt) Kind
unbanded_line [] = Err NoBand
unbanded_line (band ∷ line) =
    if band == 1 then Ok (Some (payload line))
    else if band == 2 then Ok None
    else if band == 3 then Err RemoteFatal
    else if is_error_line (band ∷ line) then Ok (Some (payload (band ∷ line)))
    else Err BadBand

-- the lines of the packfile section have bands in each form
abbrev pub is_packfile : Spot → Bool
is_packfile Packfile = true
is_packfile spot = false

abbrev pub is_on_band : Form → Spot → Bool
is_on_band form spot = form.on_bands && not (is_packfile spot)

-- a packet without its band, where it has one that the client does not know
unfoldable pub unbanded : Form → Spot → Pkt → Result (Option Pkt) Kind
unbanded form spot (payload bytes) = if is_on_band form spot then unbanded_line bytes else Ok (Some (payload bytes))
unbanded form spot packet = Ok (Some packet)

-- ---- sections

-- the line is the header of the section `packfile-uris`, which was asked for
unfoldable pub begins_uris : Form → List ℕ → Bool
begins_uris form text = form.uris && bytes_eq text (codes "packfile-uris")

-- what may come after that section: the header of the packfile section, or an error packet
unfoldable pub may_follow : List ℕ → Bool
may_follow text = bytes_eq text (codes "packfile") || is_error_line text

-- whether the client receives a line without a band, by its text; or why it is refused
unfoldable pub passes_line : Form → Spot → List ℕ → Result Bool Kind
passes_line form Header text = Ok (not (begins_uris form text))
passes_line form Lines text = Ok true
passes_line form Uris text = if is_error_line text then Ok true else if is_uri_line form.format text then Ok false else Err BadLine
passes_line form AfterUris text = if may_follow text then Ok true else Err UnexpectedSection
passes_line form Packfile text = Ok true

abbrev pub passed_by : Pkt → Result Bool Kind → Result (Option Pkt) Kind
passed_by packet (Ok true) = Ok (Some packet)
passed_by packet (Ok false) = Ok None
passed_by packet (Err kind) = Err kind

-- what a delimiter is passed on as: that of the section `packfile-uris` goes with it
abbrev pub passed_delim : Spot → Option Pkt
passed_delim Uris = None
passed_delim spot = Some delim

-- what a packet without a band is passed on as
abbrev pub passed_packet : Form → Spot → Pkt → Result (Option Pkt) Kind
passed_packet form spot (payload bytes) = passed_by (payload bytes) (passes_line form spot (text_of bytes))
passed_packet form spot delim = Ok (passed_delim spot)
passed_packet form spot packet = Ok (Some packet)

-- where the packet is that comes after this line
unfoldable pub spot_at_line : Form → Spot → List ℕ → Spot
spot_at_line form Header text =
    if begins_uris form text then Uris else if bytes_eq text (codes "packfile") then Packfile else Lines
spot_at_line form AfterUris text = if bytes_eq text (codes "packfile") then Packfile else AfterUris
spot_at_line form spot text = spot

-- or after a delimiter
abbrev pub spot_at_delim : Spot → Spot
spot_at_delim Lines = Header
spot_at_delim Uris = AfterUris
spot_at_delim spot = spot

abbrev pub spot_at : Form → Spot → Pkt → Spot
spot_at form spot (payload bytes) = spot_at_line form spot (text_of bytes)
spot_at form spot delim = spot_at_delim spot
spot_at form spot packet = spot

-- ---- packets

abbrev pub passed_of : Form → Spot → Result (Option Pkt) Kind → Result (Option Pkt) Kind
passed_of form spot (Ok (Some packet)) = passed_packet form spot packet
passed_of form spot (Ok None) = Ok None
passed_of form spot (Err kind) = Err kind

-- what a packet is passed on as, or nothing; or why it is refused
abbrev pub sieved_packet : Form → Spot → Pkt → Result (Option Pkt) Kind
sieved_packet form spot packet = passed_of form spot (unbanded form spot packet)

abbrev pub spot_of : Form → Spot → Result (Option Pkt) Kind → Spot
spot_of form spot (Ok (Some packet)) = spot_at form spot packet
spot_of form spot passed = spot

-- where the packet is that comes after this one
abbrev pub spot_next : Form → Spot → Pkt → Spot
spot_next form spot packet = spot_of form spot (unbanded form spot packet)

-- where the packet is that comes after these
abbrev pub spot_after : Form → Spot → List Given → Spot
spot_after form spot [] = spot
spot_after form spot (g ∷ gs) = spot_after form (spot_next form spot g.packet) gs

abbrev pub received_as : Result (Option Pkt) Kind → List Pkt
received_as (Ok (Some packet)) = packet ∷ []
received_as passed = []

-- the packets that the client receives for these
abbrev pub sieved_from : Form → Spot → List Given → List Pkt
sieved_from form spot [] = []
sieved_from form spot (g ∷ gs) = received_as (sieved_packet form spot g.packet) ++ sieved_from form (spot_next form spot g.packet) gs

-- those that it receives for the packets of a response
abbrev pub sieved : Form → List Given → List Pkt
sieved form packets = sieved_from form Header packets

-- the packet is not refused
pub record IsPassed (form : Form) (spot : Spot) (packet : Pkt) : Type 0 where
  pub passed_as : Option Pkt
  pub is : sieved_packet form spot packet ≡ Ok passed_as

-- none of the packets is refused
abbrev pub ArePassed : Form → Spot → List Given → Type 0
ArePassed form spot [] = Unit {0}
ArePassed form spot (g ∷ gs) = IsPassed form spot g.packet × ArePassed form (spot_next form spot g.packet) gs
