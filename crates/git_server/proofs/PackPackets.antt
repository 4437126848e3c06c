-- The packets of a pack: one more of them, and that there are always some that end it.
use Rattle.std.proofs.Common.{arith, ◌≡◌, ℕ, ◌+◌, ◌<◌, List, [], ◌∷◌, ◌++◌, length, take, drop, refl, sym, ap, ◌∙◌, append_assoc, subst}
use Rattle.std.proofs.Common.{take-append-drop, drop_of_length-le}
use Rattle.std.proofs.lemmas.List.{drop-drop}
use Rattle.std.proofs.lemmas.Grind.{common_steps}
use Rattle.git_pkt.specs.Packets.{Pkt, flush, flushes, longest_payload}
use Rattle.git_pkt.specs.Bands.{AreBands, band_packet}
use Rattle.git_pkt.specs.declared.band.Band.TheVariants.{Pack as PackBand}
use Rattle.git_pkt.specs.declared.reader.PacketReader.{PacketReader}
use Rattle.git_server.specs.Machine.AnsweredRequest.{IsNext, WritesPack}
use Rattle.git_server.specs.Machine.FetchPlaces.{IsPackfileFrom, most_packets}
use Rattle.git_server.specs.Machine.PackParts.{IsPartRead, WritesPart, answered_by, part_packet}
use Rattle.git_server.specs.Repository.{RepoState}
use Rattle.git_server.specs.Packs.{Manner, whole, broken, IsPackPart, EndsPack, EndsWhole, IsPackfile, pack_source_packet, packfile_header}
use Rattle.git_server.specs.declared.packfile.PackPlace.{PackPlace}
use Rattle.git_server.specs.declared.packfile.PackPlace.TheVariants.{Header, Pack}
use Rattle.git_server.specs.declared.packfile.PartRead.{PartRead}
use Rattle.git_server.specs.declared.packfile.PartRead.TheVariants.{Bytes, End, Failed}
use Rattle.git_server.proofs.Flushes.{flushes-append}

taken_off : (bytes : List ℕ) (offset count : ℕ) → drop offset bytes ≡ take count (drop offset bytes) ++ drop (offset + count) bytes
taken_off bytes offset count = sym (take-append-drop count (drop offset bytes))
    ∙ ap (λ (l : List ℕ). take count (drop offset bytes) ++ l) (drop-drop count offset bytes)

part_length : (pack out : List ℕ) (offset count : ℕ) → IsPackPart pack offset count out → length (take count out) ≡ count
part_length pack out offset count h = let fits = h.fits in grind (arith, common_steps)

module _ (pack out : List ℕ) (offset count : ℕ) (part : IsPackPart pack offset count out) (some : 0 < count) (few : count < longest_payload) where
  -- some bytes of the pack, and then those after them
  pub after_part : (manner : Manner) (later : List Pkt) → EndsPack manner (drop (offset + count) pack) later
      → EndsPack manner (drop offset pack) (band_packet PackBand (take count out) ∷ later)
  after_part whole later h =
      let long = part_length pack out offset count part in
      let cut : drop offset pack ≡ take count out ++ drop (offset + count) pack =
      taken_off pack offset count ∙ ap (λ (l : List ℕ). l ++ drop (offset + count) pack) (sym part.bytes) in
      record {
        bands = band_packet PackBand (take count out) ∷ h.bands;
        are_bands = (take count out, drop (offset + count) pack, cut, omega (arith, long, some), omega (arith, long, few), refl, h.are_bands);
        packets_are = ap (λ (l : List Pkt). band_packet PackBand (take count out) ∷ l) h.packets_are;
      }
  after_part broken later h =
      let long = part_length pack out offset count part in
      let cut : drop offset pack ≡ take count out ++ drop (offset + count) pack =
      taken_off pack offset count ∙ ap (λ (l : List ℕ). l ++ drop (offset + count) pack) (sym part.bytes) in
      record {
        front = take count out ++ h.front;
        back = h.back;
        bands = band_packet PackBand (take count out) ∷ h.bands;
        cut = cut ∙ ap (λ (l : List ℕ). take count out ++ l) h.cut ∙ sym (append_assoc (take count out) h.front h.back);
        are_bands = (take count out, h.front, refl, omega (arith, long, some), omega (arith, long, few), refl, h.are_bands);
        packets_are = ap (λ (l : List Pkt). band_packet PackBand (take count out) ∷ l) h.packets_are;
      }

-- the place after a part that was read from an offset on
abbrev pub place_after : PackPlace → ℕ → PartRead → PackPlace
place_after place offset (Bytes count) = Pack (offset + count)
place_after place offset End = place
place_after place offset Failed = place

part_is_next : (pack space : List ℕ) (offset : ℕ) → length space ≡ 65515 → (part : PartRead) → IsPartRead pack offset space part
    → IsNext (λ manner place later. IsPackfileFrom manner pack place later) (most_packets pack) (Pack offset) (answered_by part)
    (place_after (Pack offset) offset part) (part_packet space part)
part_is_next pack space offset full (Bytes count) (some, part) =
    (after_part pack space offset count part some (omega (arith, part.fits, full)), omega (arith, part.within, some))
part_is_next pack space offset full End none =
    record { bands = []; are_bands = drop_of_length-le pack none; packets_are = refl }
part_is_next pack space offset full Failed h =
    record { front = []; back = drop offset pack; bands = []; cut = refl; are_bands = refl; packets_are = refl }

-- the packet of a part is the next of those that end the section
pub part_written : (gives : ℕ → ℕ → Type 0) (pack : List ℕ) (offset : ℕ) (place : PackPlace) → place ≡ Pack offset
    → (repo_old : RepoState) (old : PacketReader) (part : PartRead) (repo_new : RepoState) (new : PacketReader)
    → WritesPart gives pack offset repo_old old part repo_new new
    → WritesPack pack repo_old place old (answered_by part) repo_new (place_after place offset part) new
part_written gives pack offset place was repo_old old part repo_new new h =
    subst (λ (p : PackPlace). WritesPack pack repo_old p old (answered_by part) repo_new (place_after p offset part) new) (sym was)
    (record { packet = part_packet h.space part; writes = h.writes; is_next = part_is_next pack h.space offset h.full part h.is_read; reads = h.reads })

-- some packets always end a pack: each byte in a packet of its own
single : List ℕ → List Pkt
single [] = []
single (b ∷ bs) = band_packet PackBand (b ∷ []) ∷ single bs

single_bands : (bytes : List ℕ) → AreBands PackBand bytes (single bytes)
unfolding single
single_bands [] = refl
single_bands (b ∷ bs) = (b ∷ [], bs, refl, omega arith, omega arith, refl, single_bands bs)

ends_whole : (bytes : List ℕ) → EndsWhole bytes (single bytes ++ flush ∷ [])
ends_whole bytes = record { bands = single bytes; are_bands = single_bands bytes; packets_are = refl }

pub some_packfile : (pack : List ℕ) (place : PackPlace) → (later : List Pkt) × IsPackfileFrom whole pack place later
some_packfile pack Header =
    (packfile_header ∷ (single pack ++ flush ∷ []), record { tail = single pack ++ flush ∷ []; ends = ends_whole pack; packets_are = refl })
some_packfile pack (Pack offset) = (single (drop offset pack) ++ flush ∷ [], ends_whole (drop offset pack))

pub bands_have_none : (bytes : List ℕ) (bands : List Pkt) → AreBands PackBand bytes bands → flushes bands ≡ 0
bands_have_none bytes [] h = refl
bands_have_none bytes (p ∷ ps) (part, more, cut, some, few, is, later) = ap (λ (q : Pkt). flushes (q ∷ ps)) is ∙ bands_have_none more ps later

pack_ends_once : (bytes : List ℕ) (packets : List Pkt) → EndsPack whole bytes packets → flushes packets ≡ 1
pack_ends_once bytes packets h =
    ap flushes h.packets_are ∙ flushes-append h.bands (flush ∷ []) ∙ ap (λ (n : ℕ). n + 1) (bands_have_none bytes h.bands h.are_bands)

-- the section of the pack has one flush
pub packfile_ends_once : (pack : List ℕ) (packets : List Pkt) → IsPackfile whole pack packets → flushes packets ≡ 1
packfile_ends_once pack packets h = ap flushes h.packets_are ∙ pack_ends_once pack h.tail h.ends

pub packfile_ends_later : (pack : List ℕ) (place : PackPlace) (packets : List Pkt) → IsPackfileFrom whole pack place packets → flushes packets ≡ 1
packfile_ends_later pack Header packets h = packfile_ends_once pack packets h
packfile_ends_later pack (Pack offset) packets h = pack_ends_once (drop offset pack) packets h

-- and none where the pack's source failed
pub broken_packfile_has_none : (pack : List ℕ) (packets : List Pkt) → IsPackfile broken pack packets → flushes packets ≡ 0
broken_packfile_has_none pack packets h =
    ap flushes h.packets_are ∙ ap flushes h.ends.packets_are ∙ flushes-append h.ends.bands (pack_source_packet ∷ [])
    ∙ ap (λ (n : ℕ). n + 0) (bands_have_none h.ends.front h.ends.bands h.ends.are_bands)
