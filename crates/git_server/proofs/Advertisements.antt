-- The whole advertisement, line after line.
use Rattle.std.proofs.Common.{arith, ◌≡◌, ℕ, ◌+◌, ◌<◌, ◌≤◌, Bool, true, false, length, length-append, List, [], ◌∷◌, ◌++◌, codes}
use Rattle.std.proofs.Common.{append_assoc, map, sym, ap, refl, ◌∙◌}
use Rattle.git_names.specs.declared.object_format.Format.{Format}
use Rattle.git_names.specs.declared.object_format.Format.TheVariants.{Sha1, Sha256}
use Rattle.git_pkt.specs.Digits.{digits_of}
use Rattle.git_pkt.specs.Packets.{Pkt, body_of, flush, length_field, spelling_of}
use Rattle.git_msg.specs.declared.arguments.Command.TheVariants.{LsRefs, Fetch}
use Rattle.git_msg.specs.declared.offers.Offer.{Offer}
use Rattle.git_msg.specs.Agents.{agent_text}
use Rattle.git_msg.specs.Features.{capability_text, features_of, offered_words, spaced}
use Rattle.git_msg.specs.WrittenRequest.{format_line}
use Rattle.git_server.specs.Answers.{advertisement_of, offered_line, spelled}
use Rattle.git_server.specs.Machine.AdvertisementLines.{advertisement_after, advertisement_from, advertisement_line_after, advertisement_packet, format_on}
use Rattle.git_server.specs.declared.advertisement.AdvertisementLine.{AdvertisementLine}
use Rattle.git_msg.proofs.AgentNames.{agent_is_short}
use Rattle.git_server.proofs.UnsentPackets.{one_line}

-- how long packets are, each with the four bytes before its body
abbrev lengths : List Pkt → ℕ
lengths [] = 0
lengths (p ∷ ps) = 4 + length (body_of p) + lengths ps

spelled_length : (ps : List Pkt) → length (spelled ps) ≡ lengths ps
spelled_length [] = refl
spelled_length (p ∷ ps) =
    omega (arith, length-append (spelling_of p) (spelled ps), length-append (digits_of (length_field p)) (body_of p), spelled_length ps)

-- how long words are, each with the byte before it
abbrev parted_length : List (List ℕ) → ℕ
parted_length [] = 0
parted_length (word ∷ words) = length word + 1 + parted_length words

spaced_length : (word : List ℕ) (words : List (List ℕ)) → length (spaced (word ∷ words)) + 1 ≡ parted_length (word ∷ words)
spaced_length word [] = omega arith
spaced_length word (next ∷ words) = omega (arith, length-append word (32 ∷ spaced (next ∷ words)), spaced_length next words)

text_length : (key : List ℕ) (features : List (List ℕ)) → length (capability_text key features) ≡ length key + parted_length features
text_length key [] = omega arith
text_length key (word ∷ words) = omega (arith, length-append key (61 ∷ spaced (word ∷ words)), spaced_length word words)

offered_length : (rows : List (Bool × List ℕ)) → parted_length (offered_words rows) ≤ parted_length (map (λ row. row.1) rows)
offered_length [] = omega arith
offered_length ((true, word) ∷ rows) = omega (arith, offered_length rows)
offered_length ((false, word) ∷ rows) = omega (arith, offered_length rows)

-- a line that names features is no longer than with all of them
line_is_short : (key : List ℕ) (rows : List (Bool × List ℕ))
    → length (capability_text key (offered_words rows) ++ 10 ∷ []) ≤ length key + parted_length (map (λ row. row.1) rows) + 1
line_is_short key rows =
    omega (arith, length-append (capability_text key (offered_words rows)) (10 ∷ []), text_length key (offered_words rows), offered_length rows)

format_is_short : (format : Format) → length (body_of (format_line format)) ≤ 21
format_is_short Sha1 = omega arith
format_is_short Sha256 = omega arith

-- the line of a capability that may be offered, and lines after it
offered_more : (offered : Bool) (text : List ℕ) (ps : List Pkt) → lengths (offered_line offered text ++ ps) ≤ length text + 5 + lengths ps
offered_more false text ps = omega arith
offered_more true text ps = omega (arith, length-append text (10 ∷ []))

-- how long the advertisement is, whatever is offered
pub advertisement_is_short : (offer : Offer) → length (spelled (advertisement_of offer)) < 194 + length (agent_text offer.agent)
advertisement_is_short offer =
    omega (
      arith,
      spelled_length (advertisement_of offer),
      length-append (agent_text offer.agent) (10 ∷ []),
      line_is_short (codes "ls-refs") (features_of LsRefs offer),
      line_is_short (codes "fetch") (features_of Fetch offer),
      offered_more offer.server_option (codes "server-option") (format_on offer),
      format_is_short offer.format,
      offered_more offer.object_info (codes "object-info") (flush ∷ []),
    )

module _ (offer : Offer) (line : AdvertisementLine) (written : List ℕ)
    (whole : written ++ spelled (advertisement_from offer line) ≡ spelled (advertisement_of offer)) where
  -- one more line was written
  pub line_appended : (written ++ spelling_of (advertisement_packet offer line)) ++ spelled (advertisement_after offer (advertisement_line_after offer line))
      ≡ spelled (advertisement_of offer)
  line_appended =
      append_assoc written (spelling_of (advertisement_packet offer line)) (spelled (advertisement_after offer (advertisement_line_after offer line)))
      ∙ ap (λ (l : List Pkt). written ++ spelled l) (sym (one_line offer line)) ∙ whole

  -- there is space for it
  pub line_fits : length written + length (spelling_of (advertisement_packet offer line)) < 257
  line_fits =
      omega (
        arith,
        advertisement_is_short offer,
        agent_is_short offer.agent,
        ap length line_appended,
        length-append (written ++ spelling_of (advertisement_packet offer line)) (spelled (advertisement_after offer (advertisement_line_after offer line))),
        length-append written (spelling_of (advertisement_packet offer line)),
      )
