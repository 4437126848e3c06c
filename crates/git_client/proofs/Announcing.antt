-- What one event results in: its line, its bytes of the pack and of the progress, and the counts after it.
use Rattle.std.proofs.Common.{arith, ◌≡◌, ℕ, ◌+◌, min, Bool, false, List, [], ◌∷◌, length, map, Bor}
use Rattle.std.proofs.Common.{Option, Result, Ok, Err, OnOk, OnErr, IfErr, refl, sym, ap, ◌∙◌, subst}
use Rattle.std.specs.Io.KnownBytes.{Appends}
use Rattle.git_pkt.specs.Streams.{AppendsFront, flow, is_broken, WrittenAs}
use Rattle.git_pkt.specs.declared.fault.RunFault.{RunFault}
use Rattle.git_pkt.specs.declared.fault.RunFault.TheVariants.{WriteFault}
use Rattle.git_client.specs.Events.{pack, progress, pack_bytes, progress_bytes}
use Rattle.git_client.specs.Machine.RunSteps.{counts_with, CanCount}
use Rattle.git_client.specs.Transcript.{lines_of}
use Rattle.git_client.specs.Machine.Turns.{values_of}
use Rattle.git_client.specs.declared.events.Event.{Event}
use Rattle.git_client.specs.declared.events.Event.TheVariants.{Pack, Progress}
use Rattle.git_client.specs.declared.receiving.Counts.{Counts}
use Rattle.git_client.proofs.Counting.{counts_of, same_counts}
use Rattle.git_client.proofs.EventLines.{no_lines_of_pack, no_lines_of_progress}
use Rattle.git_client.proofs.PlaceLines.{band_is}
use Rattle.git_pkt.proofs.EngineLemmas.{written_nothing, written_whole}

-- ---- what a call wrote

-- a stream with nothing to write stays as it is, even if another one fails
pub left_alone : (broken : Bool) (held : Option (List ℕ)) (bytes : List ℕ) → bytes ≡ [] → WrittenAs broken (flow held held) bytes
left_alone broken held bytes none =
    written_whole broken (flow held held) bytes (subst (WrittenAs false (flow held held)) (sym none) (written_nothing held))

-- a call that only a failing write can make fail; it has written all of the bytes, or a prefix of them
pub written_by : {T : Type 0} (result : Result T RunFault) (before after : Option (List ℕ)) (bytes : List ℕ) → OnOk result (Appends before after bytes)
    → OnErr result (AppendsFront before after bytes) → IfErr result (λ fault. fault ≡ WriteFault) → WrittenAs (is_broken result) (flow before after) bytes
written_by (Ok done) before after bytes whole front failed = whole
written_by (Err WriteFault) before after bytes whole front failed = front
written_by (Err fault) before after bytes whole front failed = absurd (cc)

-- ---- bytes of the pack and of the progress

no_progress_of_pack : (bytes : List ℕ) → progress_bytes (map pack bytes) ≡ []
no_progress_of_pack [] = refl
no_progress_of_pack (byte ∷ bytes) = no_progress_of_pack bytes

progress_is : (bytes : List ℕ) → progress_bytes (map progress bytes) ≡ bytes
progress_is [] = refl
progress_is (byte ∷ bytes) = ap (λ (l : List ℕ). byte ∷ l) (progress_is bytes)

-- other events have none
pub others_unsent : (e : Event) → ((bytes : Bor (List ℕ)) → e ≡ Pack bytes → ⊥) → ((bytes : Bor (List ℕ)) → e ≡ Progress bytes → ⊥)
    → pack_bytes (values_of e) ≡ []
others_unsent (Pack bytes) no_pack no_progress = absurd (no_pack bytes refl)
others_unsent (Progress bytes) no_pack no_progress = absurd (no_progress bytes refl)
others_unsent e no_pack no_progress = refl

pub others_unreported : (e : Event) → ((bytes : Bor (List ℕ)) → e ≡ Pack bytes → ⊥) → ((bytes : Bor (List ℕ)) → e ≡ Progress bytes → ⊥)
    → progress_bytes (values_of e) ≡ []
others_unreported (Pack bytes) no_pack no_progress = absurd (no_pack bytes refl)
others_unreported (Progress bytes) no_pack no_progress = absurd (no_progress bytes refl)
others_unreported e no_pack no_progress = refl

module _ (e : Event) (bytes : Bor (List ℕ)) where
  pub pack_lines : e ≡ Pack bytes → (p q : ℕ) → lines_of (values_of e) p q ≡ []
  pack_lines is p q = ap (λ (x : Event). lines_of (values_of x) p q) is ∙ no_lines_of_pack bytes.now p q

  pub pack_sent : e ≡ Pack bytes → pack_bytes (values_of e) ≡ bytes.now
  pack_sent is = ap (λ (x : Event). pack_bytes (values_of x)) is ∙ (band_is (1 ∷ bytes.now) (map pack bytes.now) refl).1

  pub pack_unreported : e ≡ Pack bytes → progress_bytes (values_of e) ≡ []
  pack_unreported is = ap (λ (x : Event). progress_bytes (values_of x)) is ∙ no_progress_of_pack bytes.now

  pub pack_counted : e ≡ Pack bytes → (counts : Counts) (n : ℕ) → n ≡ min (counts.pack + length bytes.now) 18446744073709551615
      → CanCount counts (values_of e) → counts_of n counts.progress ≡ counts_with counts (values_of e)
  pack_counted is counts n total can =
      same_counts n counts.progress _ _ (omega (arith, total, can.pack, ap length (pack_sent is))) (omega (arith, ap length (pack_unreported is)))

  pub progress_lines : e ≡ Progress bytes → (p q : ℕ) → lines_of (values_of e) p q ≡ []
  progress_lines is p q = ap (λ (x : Event). lines_of (values_of x) p q) is ∙ no_lines_of_progress bytes.now p q

  pub progress_unsent : e ≡ Progress bytes → pack_bytes (values_of e) ≡ []
  progress_unsent is = ap (λ (x : Event). pack_bytes (values_of x)) is ∙ (band_is (2 ∷ bytes.now) (map progress bytes.now) refl).1

  pub progress_reported : e ≡ Progress bytes → progress_bytes (values_of e) ≡ bytes.now
  progress_reported is = ap (λ (x : Event). progress_bytes (values_of x)) is ∙ progress_is bytes.now

  pub progress_counted : e ≡ Progress bytes → (counts : Counts) (n : ℕ) → n ≡ min (counts.progress + length bytes.now) 18446744073709551615
      → CanCount counts (values_of e) → counts_of counts.pack n ≡ counts_with counts (values_of e)
  progress_counted is counts n total can =
      same_counts counts.pack n _ _ (omega (arith, ap length (progress_unsent is)))
      (omega (arith, total, can.progress, ap length (progress_reported is)))
