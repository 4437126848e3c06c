-- What `show` shows of a stream with its options, and what it counts.
use Rattle.std.specs.Prelude.{ℕ, ◌+◌, ◌-◌, ◌^◌, ◌&&◌, ◌||◌, Bool, true, false, min, not, nat_eq, nat_lt}
use Rattle.std.specs.Prelude.{List, [], ◌∷◌, ◌++◌, length, codes, decimal, flat_map, Option, Some, None, if◌then◌else◌}
use Rattle.std.specs.Borrow.{Bor}
use Rattle.std.specs.List.{filter, starts_with}
use Rattle.std.specs.Str.{bytes_eq}
use Rattle.git_pkt.specs.Packets.{Pkt, flush, payload, body_of, text_of}
use Rattle.git_pkt.specs.Splits.{Given}
use Rattle.git2show_lib.specs.PacketLines.{line_of}
use Rattle.git2show_lib.specs.PrettyLines.{label_of, pretty_line}
use Rattle.git2show_lib.specs.JsonLines.{json_line}
use Rattle.git2show_lib.specs.declared.pretty.Label.{Label}
use Rattle.git2show_lib.specs.declared.pretty.Look.{Look}
use Rattle.git2show_lib.specs.declared.views.Form.{Form}
use Rattle.git2show_lib.specs.declared.views.RequestState.{RequestState}
use Rattle.git2show_lib.specs.declared.views.Tally.{Tally}
use Rattle.git2show_lib.specs.declared.views.View.{View}

-- ---- the requests of a client's stream

abbrev pub is_flush : Pkt → Bool
is_flush flush = true
is_flush packet = false

-- the line of a request that names this command
abbrev pub is_command : List ℕ → Pkt → Bool
is_command word (payload bytes) = bytes_eq (text_of bytes) (codes "command=" ++ word)
is_command word packet = false

-- what a request begins with: the line of a command, or a flush alone, which a client sends that asks for nothing more
abbrev pub begins_request : Pkt → Bool
begins_request (payload bytes) = starts_with nat_eq (text_of bytes) (codes "command=")
begins_request packet = is_flush packet

abbrev pub with_first : Given → List (List Given) → List (List Given)
with_first g [] = (g ∷ []) ∷ []
with_first g (r ∷ requests) = (g ∷ r) ∷ requests

-- the packets request by request: each but the last ends with its flush
abbrev pub requests_of : List Given → List (List Given)
requests_of [] = []
requests_of (g ∷ given) = if is_flush g.packet then (g ∷ []) ∷ requests_of given else with_first g (requests_of given)

abbrev pub has_command : List ℕ → List Given → Bool
has_command word [] = false
has_command word (g ∷ given) = is_command word g.packet

-- the packets of the requests with this command, each once, in order
abbrev pub requests_with : List ℕ → List Given → List Given
requests_with word given = flat_map (λ r. r) (filter (has_command word) (requests_of given))

abbrev pub strays_of : List Given → List ℕ
strays_of [] = []
strays_of (g ∷ given) = if begins_request g.packet then [] else g.offset ∷ []

-- the offsets of the packets that stand where a request begins, and begin none
abbrev pub strays : List Given → List ℕ
strays given = flat_map strays_of (requests_of given)

abbrev pub first_of : List ℕ → Option ℕ
first_of [] = None
first_of (n ∷ more) = Some n

-- what a view shows some of: all packets, or those of the requests with the command that it looks for
abbrev pub looked_for : Option (Bor (List ℕ)) → List Given → List Given
looked_for None given = given
looked_for (Some word) given = requests_with word.now given

-- ---- the same packet by packet, if the requests with one command are looked for

-- where the stream stands with a packet
abbrev pub request_at : Option (Bor (List ℕ)) → RequestState → Pkt → RequestState
request_at (Some word) RequestState.Between p = if is_command word.now p then RequestState.Wanted else RequestState.Unwanted
request_at only request p = request

abbrev pub request_after : Option (Bor (List ℕ)) → RequestState → Pkt → RequestState
request_after only request p = if is_flush p then RequestState.Between else request_at only request p

abbrev pub is_wanted : RequestState → Bool
is_wanted RequestState.Wanted = true
is_wanted request = false

abbrev pub is_asked : Option (Bor (List ℕ)) → RequestState → Pkt → Bool
is_asked None request p = true
is_asked (Some word) request p = is_wanted (request_at (Some word) request p)

-- the offset of the first packet that begins no request, if there was one before or this is one
abbrev pub stray_after : Option (Bor (List ℕ)) → Option ℕ → RequestState → Given → Option ℕ
stray_after only (Some offset) request g = Some offset
stray_after (Some word) None RequestState.Between g = if begins_request g.packet then None else Some g.offset
stray_after only None request g = None

-- ---- what is counted

-- a sum that stays at the largest number of 64 bits
abbrev pub plus : ℕ → ℕ → ℕ
plus a b = min (a + b) (2 ^ 64 - 1)

-- whether the packfile section goes on after a packet: from its line up to the packet that ends it
abbrev pub goes_on : Bool → Pkt → Bool
goes_on in_pack (payload bytes) = in_pack || bytes_eq (text_of bytes) (codes "packfile")
goes_on in_pack packet = false

abbrev pub requests_in : Label → ℕ
requests_in Label.Command = 1
requests_in label = 0

abbrev pub pack_in : Label → List ℕ → ℕ
pack_in Label.Pack bytes = length bytes - 1
pack_in label bytes = 0

abbrev pub counted_as : Option (Bor (List ℕ)) → Label → Tally → Given → Tally
counted_as only label t g = record {
  bytes = plus g.offset (length (body_of g.packet) + 4);
  packets = plus t.packets 1;
  requests = plus t.requests (requests_in label);
  pack = plus t.pack (pack_in label (body_of g.packet));
  in_pack = goes_on t.in_pack g.packet;
  request = request_after only t.request g.packet;
  stray = stray_after only t.stray t.request g;
}

-- with one packet more
abbrev pub counted : Option (Bor (List ℕ)) → Tally → Given → Tally
counted only t g = counted_as only (label_of t.in_pack g.packet) t g

-- the line below all others
abbrev pub summary_of : Tally → List ℕ
summary_of t =
    decimal t.bytes ++ codes " bytes, " ++ decimal t.packets ++ codes " packets, " ++ decimal t.requests ++ codes " requests, " ++ decimal t.pack
    ++ codes " bytes of packs\n"

-- ---- what is shown

abbrev pub is_pack : Label → Bool
is_pack Label.Pack = true
is_pack label = false

-- packets before an offset are left out, bytes of packs if that is wanted, and what is no request with the command that is looked for
abbrev pub leaves_out : View → Tally → Given → Bool
leaves_out view t g =
    nat_lt g.offset view.from || ((view.no_pack && is_pack (label_of t.in_pack g.packet)) || not (is_asked view.only t.request g.packet))

-- the line of columns of a packet behind a mark, after those that were counted; none of bytes of a pack if that is wanted
abbrev pub marked_line : Look → Bool → List ℕ → Tally → Given → List ℕ
marked_line look no_pack mark t g =
    if no_pack && is_pack (label_of t.in_pack g.packet) then [] else mark ++ pretty_line look.colours look.width t.in_pack g

abbrev pub formed : Form → Bool → Given → List ℕ
formed Form.Lines in_pack g = line_of g
formed (Form.Columns look) in_pack g = pretty_line look.colours look.width in_pack g
formed Form.Json in_pack g = json_line g

-- the line of a packet after those that were counted
abbrev pub view_line : View → Tally → Given → List ℕ
view_line view t g = if leaves_out view t g then [] else formed view.form t.in_pack g

-- the line of a packet after those that were counted; without options it is the plain one, and nothing is counted
abbrev pub viewed : Option View → Tally → Given → List ℕ
viewed None t g = line_of g
viewed (Some view) t g = view_line view t g

abbrev pub after : Option View → Tally → Given → Tally
after None t g = t
after (Some view) t g = counted view.only t g

-- the lines of the packets, one after another, behind those that were counted before
abbrev pub shown : Option View → Tally → List Given → List ℕ
shown view t [] = []
shown view t (g ∷ given) = viewed view t g ++ shown view (after view t g) given

abbrev pub tally_of : Option View → Tally → List Given → Tally
tally_of view t [] = t
tally_of view t (g ∷ given) = tally_of view (after view t g) given

-- a view that looks for no command
abbrev pub of_any_command : View → View
of_any_command view = record { form = view.form; from = view.from; no_pack = view.no_pack; only = None }
