-- The values that the rows use.
use Rattle.std.specs.Prelude.{ℕ, Bool, List, [], Option, ◌∷◌, ◌++◌, codes, map, replicate}
use Rattle.git_msg.specs.Advertisement.{everything}
use Rattle.git_msg.specs.Arguments.{Arg, alone, with_id, with_text}
use Rattle.git_msg.specs.Asked.{Asked, ls_refs, where_asked}
use Rattle.git_msg.specs.declared.flags.Flag.{Flag}
use Rattle.git_msg.specs.declared.words.ObjectWord.{ObjectWord}
use Rattle.git_msg.specs.declared.words.TextWord.{TextWord}
use Rattle.git_msg.specs.WrittenRequest.{text_line}
use Rattle.git_msg.specs.declared.offers.Offer.{Offer}
use Rattle.git_msg.specs.declared.response_lines.Info.{Info}
use Rattle.git_names.specs.ObjectName.{ObjectName}
use Rattle.git_names.specs.declared.object_format.Format.TheVariants.{Sha1}
use Rattle.git_pkt.specs.Packets.{Pkt, delim, flush}
use Rattle.git_pkt.specs.Splits.{Given}
use Rattle.git_pkt.specs.declared.fault.Fault.{Fault}
use Rattle.git_pkt.specs.declared.fault.Kind.{Kind}

-- the packet, at this offset
abbrev pub at : ℕ → Pkt → Given
at offset packet = record { packet = packet; offset = offset }

-- the error of this kind, at this offset
abbrev pub fault_at : Kind → ℕ → Fault
fault_at kind offset = record { kind = kind; offset = offset }

-- forty times the digit a, in either case
abbrev pub all_a : List ℕ
all_a = codes "aaaaaaaaaaaaaaaaaaaaaaaaaaaaaaaaaaaaaaaa"

abbrev pub all_upper_a : List ℕ
all_upper_a = codes "AAAAAAAAAAAAAAAAAAAAAAAAAAAAAAAAAAAAAAAA"

-- the SHA-1 object name whose bytes all have this value
abbrev pub name_of_bytes : ℕ → ObjectName
name_of_bytes byte = record { format = Sha1; bytes = replicate 20 byte ++ replicate 12 0 }

-- the object name that these digits spell
abbrev pub name_a : ObjectName
name_a = name_of_bytes 170

-- forty times the letter b, and the object name that it spells
abbrev pub all_b : List ℕ
all_b = codes "bbbbbbbbbbbbbbbbbbbbbbbbbbbbbbbbbbbbbbbb"

abbrev pub name_b : ObjectName
name_b = name_of_bytes 187

-- the object name of all a, with bytes other than zero after the first twenty
abbrev pub name_unpadded : ObjectName
name_unpadded = record { format = Sha1; bytes = replicate 20 170 ++ replicate 12 1 }

-- the object name of all a, except for a b at its end
abbrev pub name_ab : ObjectName
name_ab = record { format = Sha1; bytes = replicate 19 170 ++ 171 ∷ replicate 12 0 }

-- all features, for object names of SHA-1
abbrev pub offer_all : Offer
offer_all = everything Sha1

-- the object, with its size if the server has it
abbrev pub info_of : ObjectName → Option ℕ → Info
info_of id size = record { id = id; size = size }

-- what a request for references without flags asks for, with these prefixes
abbrev pub ls_refs_of : List (List ℕ) → List Arg
ls_refs_of prefixes = map (with_text TextWord.RefPrefix) prefixes

-- what a fetch asks for, with these `want` lines, perhaps `done`, and no other line
abbrev pub fetch_of : List ObjectName → Bool → List Arg
fetch_of wants is_done = map (with_id ObjectWord.Want) wants ++ where_asked is_done Flag.Done

-- what a request for the sizes of these objects asks for
abbrev pub sizes_of : List ObjectName → List Arg
sizes_of ids = alone Flag.Size ∷ map (with_id ObjectWord.ObjectId) ids

-- a request for references, from the offset 0 on
abbrev pub ls_refs_packets : List Given
ls_refs_packets = at 0 (text_line (codes "command=ls-refs")) ∷ at 20 flush ∷ []

-- the same after a server option
abbrev pub option_packets : List Given
option_packets = at 0 (text_line (codes "server-option=x")) ∷ at 20 (text_line (codes "command=ls-refs")) ∷ at 40 flush ∷ []

abbrev pub option_asked : Asked
option_asked = ls_refs (with_text TextWord.ServerOption (codes "x") ∷ [])

-- a fetch of one object without its last packets
abbrev pub want_alone_packets : List Given
want_alone_packets = at 0 (text_line (codes "command=fetch")) ∷ at 18 delim ∷ at 22 (text_line (codes "want " ++ all_a)) ∷ []

-- a fetch of one object, with `done`
abbrev pub fetch_done_packets : List Given
fetch_done_packets = want_alone_packets ++ at 72 (text_line (codes "done")) ∷ at 81 flush ∷ []

-- a fetch of nothing
abbrev pub no_want_packets : List Given
no_want_packets = at 0 (text_line (codes "command=fetch")) ∷ at 18 delim ∷ at 22 (text_line (codes "done")) ∷ at 31 flush ∷ []

-- a request for references with three arguments; the first two have 26 bytes together
abbrev pub three_argument_packets : List Given
three_argument_packets =
    at 0 (text_line (codes "command=ls-refs")) ∷ at 20 delim ∷ at 24 (text_line (codes "peel"))
    ∷ at 33 (text_line (codes "ref-prefix refs/heads/")) ∷ at 60 (text_line (codes "symrefs")) ∷ []

-- a request for references with these flags and prefixes
abbrev pub asked_with : (symrefs peel : Bool) → List (List ℕ) → List Arg
asked_with symrefs peel prefixes = where_asked peel Flag.Peel ++ (where_asked symrefs Flag.Symrefs ++ map (with_text TextWord.RefPrefix) prefixes)

-- a fetch that negotiates, with these `have` lines
abbrev pub haves_of : List ObjectName → List Arg
haves_of haves = with_id ObjectWord.Want name_a ∷ map (with_id ObjectWord.Have) haves
