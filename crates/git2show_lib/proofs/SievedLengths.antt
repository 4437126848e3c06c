-- A client receives no more bytes than a response has.
use Rattle.std.proofs.Common.{arith, ◌==◌, ℕ, ◌+◌, ◌≤◌, Bool, true, false, List, [], ◌∷◌, ◌++◌, length, if◌then◌else◌, Option, Some, None}
use Rattle.std.proofs.Common.{Result, Ok, Err, ap, length-append}
use Rattle.std.proofs.lemmas.Grind.{flat_map-append}
use Rattle.git_pkt.specs.Packets.{Pkt, flush, delim, resp_end, payload, body_of, spelling_of, text_of}
use Rattle.git_pkt.specs.Splits.{Given, SpellsAll}
use Rattle.git_pkt.specs.declared.fault.Kind.{Kind}
use Rattle.git_pkt.specs.declared.fault.Kind.TheVariants.{BadBand, RemoteFatal}
use Rattle.git_pkt.proofs.Spelling.{spelled_length}
use Rattle.git_client.specs.Machine.Client.{spelled}
use Rattle.git2show_lib.specs.Sieve.{is_error_line, is_on_band, passed_by, passed_of, passed_packet, passes_line, received_as}
use Rattle.git2show_lib.specs.Sieve.{sieved_from, sieved_packet, spot_next, unbanded, unbanded_line}
use Rattle.git2show_lib.specs.declared.sieve.Form.{Form}
use Rattle.git2show_lib.specs.declared.sieve.Spot.{Spot}
use Rattle.git2show_lib.specs.declared.sieve.Spot.TheVariants.{Header, Lines, Uris, AfterUris, Packfile}

-- what is passed on, if it is something, has no more bytes than these
abbrev IsWithin : ℕ → Result (Option Pkt) Kind → Type 0
IsWithin most (Ok (Some packet)) = length (body_of packet) ≤ most
IsWithin most passed = Unit {0}

line_within : (bytes : List ℕ) → IsWithin (length bytes) (unbanded_line bytes)
unfolding unbanded_line
line_within [] = tt
line_within (band ∷ line) = at (band == 1) (band == 2) (band == 3) (is_error_line (band ∷ line)) where
  at : (a b c d : Bool) → IsWithin (length (band ∷ line)) (if a then Ok (Some (payload line)) else if b then Ok None else if c then Err RemoteFatal
      else if d then Ok (Some (payload (band ∷ line))) else Err BadBand)
  at true b c d = omega arith
  at false true c d = tt
  at false false true d = tt
  at false false false true = omega arith
  at false false false false = tt

unbanded_within : (form : Form) (spot : Spot) (packet : Pkt) → IsWithin (length (body_of packet)) (unbanded form spot packet)
unfolding unbanded
unbanded_within form spot flush = omega arith
unbanded_within form spot delim = omega arith
unbanded_within form spot resp_end = omega arith
unbanded_within form spot (payload bytes) = at (is_on_band form spot) where
  at : (b : Bool) → IsWithin (length bytes) (if b then unbanded_line bytes else Ok (Some (payload bytes)))
  at true = line_within bytes
  at false = omega arith

passed_within : (form : Form) (spot : Spot) (packet : Pkt) → IsWithin (length (body_of packet)) (passed_packet form spot packet)
passed_within form spot flush = omega arith
passed_within form spot resp_end = omega arith
passed_within form Uris delim = tt
passed_within form Header delim = omega arith
passed_within form Lines delim = omega arith
passed_within form AfterUris delim = omega arith
passed_within form Packfile delim = omega arith
passed_within form spot (payload bytes) = at (passes_line form spot (text_of bytes)) where
  at : (passes : Result Bool Kind) → IsWithin (length bytes) (passed_by (payload bytes) passes)
  at (Ok true) = omega arith
  at (Ok false) = tt
  at (Err kind) = tt

within_less : (most more : ℕ) (passed : Result (Option Pkt) Kind) → IsWithin most passed → most ≤ more → IsWithin more passed
within_less most more (Ok (Some packet)) few less = omega (arith, few, less)
within_less most more (Ok None) few less = tt
within_less most more (Err kind) few less = tt

packet_within : (form : Form) (spot : Spot) (packet : Pkt) → IsWithin (length (body_of packet)) (sieved_packet form spot packet)
packet_within form spot packet = at (unbanded form spot packet) (unbanded_within form spot packet) where
  at : (result : Result (Option Pkt) Kind) → IsWithin (length (body_of packet)) result → IsWithin (length (body_of packet)) (passed_of form spot result)
  at (Ok (Some inner)) few =
      within_less (length (body_of inner)) (length (body_of packet)) (passed_packet form spot inner) (passed_within form spot inner) few
  at (Ok None) few = tt
  at (Err kind) few = tt

one_within : (most : ℕ) (passed : Result (Option Pkt) Kind) → IsWithin most passed → length (spelled (received_as passed)) ≤ most + 4
one_within most (Ok (Some packet)) few = omega (arith, few, length-append (spelling_of packet) [])
one_within most (Ok None) few = omega arith
one_within most (Err kind) few = omega arith

-- the packets that the client receives are no longer than these
pub sieved_within : (form : Form) (spot : Spot) (p : ℕ) (bytes : List ℕ) (gs bad : List Given) (rest : List ℕ) → SpellsAll p bytes (gs ++ bad) rest
    → length (spelled (sieved_from form spot gs)) ≤ length bytes
sieved_within form spot p bytes [] bad rest spells = omega arith
sieved_within form spot p bytes (g ∷ gs) bad rest (s, more, is, at, first, later) =
    let next = spot_next form spot g.packet in
    let now = received_as (sieved_packet form spot g.packet) in
    omega (
      arith,
      ap length is,
      length-append s more,
      spelled_length g.packet s first,
      one_within (length (body_of g.packet)) (sieved_packet form spot g.packet) (packet_within form spot g.packet),
      sieved_within form next (p + length s) more gs bad rest later,
      ap length (flat_map-append spelling_of now (sieved_from form next gs)),
      length-append (spelled now) (spelled (sieved_from form next gs)),
    )
