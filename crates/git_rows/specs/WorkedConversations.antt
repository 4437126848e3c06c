-- The bytes, packets and requests that the rows of conversations are about.
use Rattle.std.specs.Prelude.{ℕ, List, [], ◌∷◌, ◌++◌, None, Some, codes, false, true}
use Rattle.git_client.specs.Parts.{Terms, terms_of}
use Rattle.git_client.specs.declared.events.Ending.TheVariants.{FlushOnly}
use Rattle.git_msg.specs.Asked.{Asked, fetch, ls_refs, object_info}
use Rattle.git_msg.specs.References.{Ref, reference_of}
use Rattle.git_msg.specs.WrittenRequest.{text_line}
use Rattle.git_names.specs.declared.object_format.Format.TheVariants.{Sha1}
use Rattle.git_pkt.specs.Packets.{Pkt, flush}
use Rattle.git_rows.specs.Worked.{all_a, fetch_of, ls_refs_of, name_a, sizes_of}

-- object names of SHA-1, and responses that end with a flush
abbrev pub terms : Terms
terms = terms_of Sha1 FlushOnly

-- a request for references
abbrev pub asked_refs : List Asked
asked_refs = ls_refs (ls_refs_of []) ∷ []

-- a fetch with `done`, one that negotiates, and a request for sizes
abbrev pub asked_fetch : List Asked
asked_fetch = fetch (fetch_of (name_a ∷ []) true) ∷ []

abbrev pub asked_haves : List Asked
asked_haves = fetch (fetch_of (name_a ∷ []) false) ∷ []

abbrev pub asked_sizes : List Asked
asked_sizes = object_info (sizes_of (name_a ∷ [])) ∷ []

-- the reference that is received
abbrev pub head_ref : Ref
head_ref = reference_of (Some name_a) (codes "HEAD") None None

-- an advertisement without capabilities
abbrev pub offer_bytes : List ℕ
offer_bytes = codes "000eversion 2\n0000"

-- after it the line of a reference, and the flush that ends the response
abbrev pub refs_begun_bytes : List ℕ
refs_begun_bytes = offer_bytes ++ codes "0032" ++ all_a ++ codes " HEAD\n"

abbrev pub refs_bytes : List ℕ
refs_bytes = offer_bytes ++ codes "0032" ++ all_a ++ codes " HEAD\n0000"

-- after it a byte on this band, and then others
abbrev pub pack_bytes : ℕ → List ℕ → List ℕ
pack_bytes band more = offer_bytes ++ codes "000dpackfile\n0006" ++ band ∷ codes "A" ++ more

-- the packets of that advertisement, the last one first
abbrev pub offered_before : List Pkt
offered_before = flush ∷ text_line (codes "version 2") ∷ []

-- and after them this line
abbrev pub after_header : List ℕ → List Pkt
after_header header = text_line header ∷ offered_before

abbrev pub after_acks : List Pkt
after_acks = after_header (codes "acknowledgments")
