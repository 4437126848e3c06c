-- What a writer for C reports, and what it leaves in the buffer, is determined by the values that C passes and the buffer.
use Rattle.std.proofs.Common.{◌≡◌, ℕ, ◌≤◌, List, [], ◌∷◌, ◌++◌, codes, drop, true, length, length-append, Option, Some, None, Ok, Err}
use Rattle.std.proofs.Common.{sym, ◌∙◌, ap, refl, subst, inl, inr, arith}
use Rattle.std.proofs.lemmas.Bool.Decides.{leb_tells}
use Rattle.git_names.specs.ObjectName.{ObjectName}
use Rattle.git_names.specs.RefName.{IsRefName}
use Rattle.git_names.specs.declared.object_format.Format.{Format}
use Rattle.git_names.proofs.ObjectNames.{one_object_name}
use Rattle.git_pkt.specs.Bands.{band_packet}
use Rattle.git_pkt.specs.Packets.{Pkt, flush, delim, resp_end, payload, body_of, longest_payload, spelling_of}
use Rattle.git_pkt.specs.declared.band.Band.{Band}
use Rattle.git_pkt.proofs.Bands.{one_band}
use Rattle.git_msg.specs.AgentNames.{is_agent}
use Rattle.git_msg.specs.declared.agent.Agent.{Agent}
use Rattle.git_msg.specs.Checks.{Check, Passes, Refuses}
use Rattle.git_msg.specs.References.{IsMaybeObjectName, reference_of, reference_text}
use Rattle.git_msg.specs.ResponseLines.{wanted_of, wanted_text}
use Rattle.git_msg.specs.WrittenRequest.{text_line}
use Rattle.git_msg.proofs.CheckLaws.{AllFair, IsFair, fair_check, one_name, passes_or_refuses}
use Rattle.git_msg.specs.declared.offers.Offer.{Offer}
use Rattle.git_server.specs.Answers.{advertisement_of, spelled}
use Rattle.gitwire.specs.Numbers.{formats, numbered}
use Rattle.gitwire.specs.Offers.{MeansAgent, MeansNoAgent, name_meant, offer_by}
use Rattle.gitwire.specs.Buffers.{Fills}
use Rattle.gitwire.specs.WrittenForC.{Advertises, InFormat, IsDetermined, IsLineOf, IsOfKind, IsReferenceOf, Meant, Announces, announcing_why}
use Rattle.gitwire.specs.WrittenForC.{MeansBand, MeansLine, MeansLineOf, MeansPacket, MeansReference, MeansWanted}
use Rattle.gitwire.specs.WrittenForC.{given, object_name_check, ref_name_check, where_given}
use Rattle.gitwire.specs.declared.answer.GitwireAnswer.{GitwireAnswer}
use Rattle.gitwire.specs.declared.written.Unwritten.{Unwritten}
use Rattle.gitwire.specs.declared.written.Unwritten.TheVariants.{BadValue, Refused}
use Rattle.gitwire.proofs.GivenNames.{maybe_passes}

-- values mean one packet that fits, or nothing for one reason
pub record IsOne (Means : Meant → Type 0) : Type 0 where
  pub packets : (p q : Pkt) → Means (Ok p) → Means (Ok q) → p ≡ q
  pub whys : (why other : Unwritten) → Means (Err why) → Means (Err other) → why ≡ other
  pub apart : (p : Pkt) (why : Unwritten) → length (body_of p) ≤ longest_payload → Means (Ok p) → Means (Err why) → ⊥

fills_once : (bytes buffer : List ℕ) (answer other : GitwireAnswer) (filled others : List ℕ)
    → Fills bytes buffer answer filled → Fills bytes buffer other others → (answer ≡ other) × (filled ≡ others)
fills_once bytes buffer answer other filled others h k =
    elim (leb_tells (length bytes) (length buffer)) [
      | inl fits ↦ ((h.done fits.1).0 ∙ sym (k.done fits.1).0, (h.done fits.1).1 ∙ sym (k.done fits.1).1)
      | inr small ↦ ((h.too_small small.1).0 ∙ sym (k.too_small small.1).0, (h.too_small small.1).1 ∙ sym (k.too_small small.1).1)
    ]

answer_once : (Means : Meant → Type 0) → IsOne Means → (a b : Meant) → Means a → Means b → (buffer : List ℕ)
    (answer other : GitwireAnswer) (filled others : List ℕ)
    → Announces a buffer answer filled → Announces b buffer other others → (answer ≡ other) × (filled ≡ others)
answer_once Means one (Ok p) (Ok q) h k buffer answer other filled others t u =
    let same = sym (one.packets p q h k) in
    fills_once (spelling_of p) buffer answer other filled others t.1 (subst (λ (p : Pkt). Fills (spelling_of p) buffer other others) same u.1)
answer_once Means one (Ok p) (Err why) h k buffer answer other filled others t u = absurd (one.apart p why t.0 h k)
answer_once Means one (Err why) (Ok p) h k buffer answer other filled others t u = absurd (one.apart p why u.0 k h)
answer_once Means one (Err why) (Err because) h k buffer answer other filled others t u =
    (t.0 ∙ ap announcing_why (one.whys why because h k) ∙ sym u.0, t.1 ∙ sym u.1)

pub determined : (Means : Meant → Type 0) → IsOne Means → IsDetermined Means
determined Means one buffer answer other filled others w v =
    answer_once Means one w.meant v.meant w.means v.means buffer answer other filled others w.announces v.announces

-- a text that means an agent means one
some_agent : (name : List ℕ) (agent : Agent) → MeansAgent name agent → MeansNoAgent name → ⊥
some_agent name agent means none = let is : is_agent (name_meant name) ≡ true = subst (λ (text : List ℕ). is_agent text ≡ true) means agent.named in cc

pub advertised_once : (offer : Option Offer) (name buffer : List ℕ) (answer other : GitwireAnswer) (filled others : List ℕ)
    → Advertises offer name buffer answer filled → Advertises offer name buffer other others → (answer ≡ other) × (filled ≡ others)
advertised_once None name buffer answer other filled others h k = (h.0 ∙ sym k.0, h.1 ∙ sym k.1)
advertised_once (Some offer) name buffer answer other filled others (inl h) (inl k) = (h.1 ∙ sym k.1, h.2 ∙ sym k.2)
advertised_once (Some offer) name buffer answer other filled others (inl h) (inr k) = absurd (some_agent name k.0 k.1 h.0)
advertised_once (Some offer) name buffer answer other filled others (inr h) (inl k) = absurd (some_agent name h.0 h.1 k.0)
advertised_once (Some offer) name buffer answer other filled others (inr h) (inr k) =
    let same : advertisement_of (offer_by h.0 offer) ≡ advertisement_of (offer_by k.0 offer) =
    ap (λ (text : List ℕ). text_line (codes "version 2") ∷ text_line (codes "agent=" ++ text) ∷ drop 2 (advertisement_of offer)) (h.1 ∙ sym k.1) in
    fills_once (spelled (advertisement_of (offer_by h.0 offer))) buffer answer other filled others h.2.1
    (subst (λ (packets : List Pkt). Fills (spelled packets) buffer other others) (sym same) k.2.1)

-- packets of any subject

same_packet : (kind : ℕ) (bytes : List ℕ) (p q : Pkt) → IsOfKind kind bytes p → IsOfKind kind bytes q → p ≡ q
same_packet kind bytes flush flush h k = refl
same_packet kind bytes delim delim h k = refl
same_packet kind bytes resp_end resp_end h k = refl
same_packet kind bytes (payload a) (payload b) h k = ap payload (sym h.1 ∙ k.1)
same_packet kind bytes flush delim h k = absurd (omega (arith, h.0, k.0))
same_packet kind bytes flush resp_end h k = absurd (omega (arith, h.0, k.0))
same_packet kind bytes flush (payload b) h k = absurd (omega (arith, h.0, k.0))
same_packet kind bytes delim flush h k = absurd (omega (arith, h.0, k.0))
same_packet kind bytes delim resp_end h k = absurd (omega (arith, h.0, k.0))
same_packet kind bytes delim (payload b) h k = absurd (omega (arith, h.0, k.0))
same_packet kind bytes resp_end flush h k = absurd (omega (arith, h.0, k.0))
same_packet kind bytes resp_end delim h k = absurd (omega (arith, h.0, k.0))
same_packet kind bytes resp_end (payload b) h k = absurd (omega (arith, h.0, k.0))
same_packet kind bytes (payload a) flush h k = absurd (omega (arith, h.0, k.0))
same_packet kind bytes (payload a) delim h k = absurd (omega (arith, h.0, k.0))
same_packet kind bytes (payload a) resp_end h k = absurd (omega (arith, h.0, k.0))

packet_whys : (kind : ℕ) (bytes : List ℕ) (why other : Unwritten) → MeansPacket kind bytes (Err why) → MeansPacket kind bytes (Err other) → why ≡ other
packet_whys kind bytes BadValue BadValue h k = refl
packet_whys kind bytes BadValue (Refused fault) h k = absurd (h (payload bytes) (k.1, refl))
packet_whys kind bytes (Refused fault) BadValue h k = absurd (k (payload bytes) (h.1, refl))
packet_whys kind bytes (Refused fault) (Refused other) h k = ap Refused (h.0 ∙ sym k.0)

packet_apart : (kind : ℕ) (bytes : List ℕ) (p : Pkt) (why : Unwritten) → length (body_of p) ≤ longest_payload
    → MeansPacket kind bytes (Ok p) → MeansPacket kind bytes (Err why) → ⊥
packet_apart kind bytes p BadValue fits h k = k p h
packet_apart kind bytes flush (Refused fault) fits h k = omega (arith, h.0, k.1)
packet_apart kind bytes delim (Refused fault) fits h k = omega (arith, h.0, k.1)
packet_apart kind bytes resp_end (Refused fault) fits h k = omega (arith, h.0, k.1)
packet_apart kind bytes (payload content) (Refused fault) fits h k = omega (arith, fits, ap length h.1, k.2)

pub one_packet : (kind : ℕ) (bytes : List ℕ) → IsOne (MeansPacket kind bytes)
one_packet kind bytes = record { packets = same_packet kind bytes; whys = packet_whys kind bytes; apart = packet_apart kind bytes }

same_band_packet : (number : ℕ) (bytes : List ℕ) (p q : Pkt) → MeansBand number bytes (Ok p) → MeansBand number bytes (Ok q) → p ≡ q
same_band_packet number bytes p q (band, numbered, is) (other, number_is, is_other) =
    let same = (one_band (number ∷ []) [] [] band other (ap (λ (n : ℕ). n ∷ []) numbered) (ap (λ (n : ℕ). n ∷ []) number_is)).0 in
    is ∙ ap (λ (band : Band). band_packet band bytes) same ∙ sym is_other

band_whys : (number : ℕ) (bytes : List ℕ) (why other : Unwritten) → MeansBand number bytes (Err why) → MeansBand number bytes (Err other) → why ≡ other
band_whys number bytes BadValue BadValue h k = refl
band_whys number bytes BadValue (Refused fault) h k = absurd (h k.1.0 k.1.1)
band_whys number bytes (Refused fault) BadValue h k = absurd (k h.1.0 h.1.1)
band_whys number bytes (Refused fault) (Refused other) h k = ap Refused (h.0 ∙ sym k.0)

band_apart : (number : ℕ) (bytes : List ℕ) (p : Pkt) (why : Unwritten) → length (body_of p) ≤ longest_payload
    → MeansBand number bytes (Ok p) → MeansBand number bytes (Err why) → ⊥
band_apart number bytes p BadValue fits (band, numbered, is) k = k band numbered
band_apart number bytes p (Refused fault) fits (band, numbered, is) k = omega (arith, fits, ap (λ (p : Pkt). length (body_of p)) is, k.2)

pub one_band_packet : (number : ℕ) (bytes : List ℕ) → IsOne (MeansBand number bytes)
one_band_packet number bytes = record { packets = same_band_packet number bytes; whys = band_whys number bytes; apart = band_apart number bytes }

line_apart : (text : List ℕ) (p : Pkt) (why : Unwritten) → length (body_of p) ≤ longest_payload → MeansLine text (Ok p) → MeansLine text (Err why) → ⊥
line_apart text p why fits is k =
    omega (arith, fits, simp length-append at (ap (λ (p : Pkt). length (body_of p)) is), k.1)

pub one_line : (text : List ℕ) → IsOne (MeansLine text)
one_line text = record { packets = λ p q h k. h ∙ sym k; whys = λ why other h k. h.0 ∙ sym k.0; apart = line_apart text }

-- names in a format

same_format : (number : ℕ) (format other : Format) → numbered formats number ≡ Some format → numbered formats number ≡ Some other → format ≡ other
same_format number format other h k = cc

-- nothing that the checks refuse is a packet, and names are one packet
pub record IsOneIn (checks : List Check) (IsPacket : Pkt → Type 0) : Type 0 where
  pub fair : AllFair checks
  pub passes : (p : Pkt) → IsPacket p → Passes checks
  pub same : (p q : Pkt) → IsPacket p → IsPacket q → p ≡ q

module _ (number : ℕ) (checks : Format → List Check) (IsPacket : Format → Pkt → Type 0) (one : (format : Format) → IsOneIn (checks format) (IsPacket
    format)) where
  packets_in : (p q : Pkt) → InFormat number checks IsPacket (Ok p) → InFormat number checks IsPacket (Ok q) → p ≡ q
  packets_in p q (format, numbered, h) (other, is_other, k) =
      let same = sym (same_format number format other numbered is_other) in
      (one format).same p q h (subst (λ (format : Format). IsPacket format q) same k)

  whys_in : (why other : Unwritten) → InFormat number checks IsPacket (Err why) → InFormat number checks IsPacket (Err other) → why ≡ other
  whys_in BadValue BadValue h k = refl
  whys_in BadValue (Refused kind) h (format, numbered, k) = absurd cc
  whys_in (Refused kind) BadValue (format, numbered, h) k = absurd cc
  whys_in (Refused kind) (Refused other) (format, numbered, h) (second, is_second, k) =
      let same = sym (same_format number format second numbered is_second) in
      ap Refused (one_name (checks format) (one format).fair kind other h (subst (λ (format : Format). Refuses (checks format) other) same k))

  apart_in : (p : Pkt) (why : Unwritten) → length (body_of p) ≤ longest_payload → InFormat number checks IsPacket (Ok p) → InFormat number checks IsPacket
      (Err why) → ⊥
  apart_in p BadValue fits (format, numbered, h) k = absurd cc
  apart_in p (Refused kind) fits (format, numbered, h) (other, is_other, k) =
      let same = sym (same_format number format other numbered is_other) in
      passes_or_refuses (checks format) (one format).fair kind ((one format).passes p h) (subst (λ (format : Format). Refuses (checks format) kind) same k)

  one_in : IsOne (InFormat number checks IsPacket)
  one_in = record { packets = packets_in; whys = whys_in; apart = apart_in }

fair_object_name : (format : Format) (digits : List ℕ) → IsFair (object_name_check format digits)
fair_object_name format digits = fair_check _ _ _ (λ p q. q p.0 p.1)

fair_ref_name : (name : List ℕ) → IsFair (ref_name_check name)
fair_ref_name name = fair_check _ _ _ (λ p q. q p)

fair_given : (text : List ℕ) (c : Check) → IsFair c → IsFair (where_given text c)
fair_given text c fair = record { apart = λ kind p r. fair.apart kind (p r.0) r.1; single = λ kind other r s. fair.single kind other r.1 s.1 }

same_line : (format : Format) (digits : List ℕ) (text : ObjectName → List ℕ) (p q : Pkt) → IsLineOf format digits text p → IsLineOf format digits text q → p ≡ q
same_line format digits text p q h k =
    h.line ∙ ap (λ (id : ObjectName). text_line (text id)) (one_object_name format digits h.id k.id h.is_id k.is_id) ∙ sym k.line

one_line_in : (digits : List ℕ) (text : ObjectName → List ℕ) (format : Format) → IsOneIn (object_name_check format digits ∷ []) (IsLineOf format digits text)
unfolding AllFair
one_line_in digits text format = record {
  fair = (fair_object_name format digits, tt);
  passes = λ p h. ((h.id, h.is_id), tt);
  same = same_line format digits text;
}

pub one_line_of : (number : ℕ) (digits : List ℕ) (text : ObjectName → List ℕ) → IsOne (MeansLineOf number digits text)
one_line_of number digits text = one_in number _ _ (one_line_in digits text)

one_wanted_in : (digits name : List ℕ) (format : Format)
    → IsOneIn (object_name_check format digits ∷ ref_name_check name ∷ []) (λ packet. IsRefName name × IsLineOf format digits (λ id. wanted_text (wanted_of
    id name)) packet)
unfolding AllFair
one_wanted_in digits name format = record {
  fair = (fair_object_name format digits, (fair_ref_name name, tt));
  passes = λ p h. ((h.1.id, h.1.is_id), (h.0, tt));
  same = λ p q h k. same_line format digits (λ id. wanted_text (wanted_of id name)) p q h.1 k.1;
}

pub one_wanted : (number : ℕ) (digits name : List ℕ) → IsOne (MeansWanted number digits name)
one_wanted number digits name = one_in number _ _ (one_wanted_in digits name)

same_maybe : (format : Format) (text : Option (List ℕ)) (a b : Option ObjectName) → IsMaybeObjectName format text a → IsMaybeObjectName format text b → a ≡ b
same_maybe format None a b h k = h ∙ sym k
same_maybe format (Some text) a b h k = h.2 ∙ ap Some (one_object_name format text h.0 k.0 h.1 k.1) ∙ sym k.2

same_reference : (format : Format) (digits name target peeled : List ℕ) (p q : Pkt)
    → IsReferenceOf format digits name target peeled p → IsReferenceOf format digits name target peeled q → p ≡ q
same_reference format digits name target peeled p q h k =
    let text = λ (id named : Option ObjectName). text_line (reference_text (reference_of id name (given target) named)) in
    h.line ∙ ap (λ (id : Option ObjectName). text id h.peeled_id) (same_maybe format (given digits) h.id k.id h.is_id k.is_id)
    ∙ ap (text k.id) (same_maybe format (given peeled) h.peeled_id k.peeled_id h.is_peeled k.is_peeled) ∙ sym k.line

one_reference_in : (digits name target peeled : List ℕ) (format : Format)
    → IsOneIn (where_given digits (object_name_check format digits) ∷ ref_name_check name ∷ where_given target (ref_name_check target)
    ∷ where_given peeled (object_name_check format peeled) ∷ []) (IsReferenceOf format digits name target peeled)
unfolding AllFair
one_reference_in digits name target peeled format = record {
  fair = (
    fair_given digits _ (fair_object_name format digits),
    (fair_ref_name name, (fair_given target _ (fair_ref_name target), (fair_given peeled _ (fair_object_name format peeled), tt))),
  );
  passes = λ p h. (
    maybe_passes format digits h.id h.is_id,
    (h.is_name, (h.is_target, (maybe_passes format peeled h.peeled_id h.is_peeled, tt))),
  );
  same = same_reference format digits name target peeled;
}

pub one_reference : (number : ℕ) (digits name target peeled : List ℕ) → IsOne (MeansReference number digits name target peeled)
one_reference number digits name target peeled = one_in number _ _ (one_reference_in digits name target peeled)
