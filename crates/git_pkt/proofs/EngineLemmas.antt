-- Lemmas for runs over a reader and a writer: the effect of each call on all bytes read and written so far.
use Rattle.std.proofs.Common.{◌≡◌, ◌<◌, ℕ, ◌+◌, ◌-◌, length, take, drop, arith, List, [], ◌∷◌, ◌++◌, Option, Result, Err, IsErrAnd, MatchResult, refl, ap}
use Rattle.std.proofs.Common.{◌∙◌, sym, subst, append_assoc, append-nil, Bool, true, false}
use Rattle.std.proofs.Math.Seq.{take-add}
use Rattle.std.proofs.lemmas.Result.{err_from_is_err_and}
use Rattle.std.specs.Io.KnownBytes.{Appends, Consumes, Keeps}
use Rattle.std.proofs.KnownBytes.{Appends-nil, Appends-trans, Appends-kept}
use Rattle.git_pkt.specs.Streams.{AppendsFront, Flow, flow, StreamRelation, WrittenAs, Moves, IsTimely}
use Rattle.git_pkt.specs.declared.fault.Kind.{Kind}
use Rattle.git_pkt.specs.declared.fault.Kind.TheVariants.{Truncated, StreamTooLong}
use Rattle.git_pkt.specs.declared.fault.RunFault.{RunFault}

-- bytes that were written whole, and then a prefix of others
pub AppendsFront-after : (a b c : Option (List ℕ)) (bs cs : List ℕ) → Appends a b bs → AppendsFront b c cs → AppendsFront a c (bs ++ cs)
AppendsFront-after a b c bs cs whole (front, rest, split, written) =
    (bs ++ front, rest, ap (λ l. bs ++ l) split ∙ sym (append_assoc bs front rest), Appends-trans a b c bs front whole written)

-- a prefix of bytes is a prefix of those and others
pub AppendsFront-longer : (a b : Option (List ℕ)) (bs cs : List ℕ) → AppendsFront a b bs → AppendsFront a b (bs ++ cs)
AppendsFront-longer a b bs cs (front, rest, split, written) = (front, rest ++ cs, ap (λ l. l ++ cs) split ∙ append_assoc front rest cs, written)

-- ---- the next part of a chunk, `&chunk[done..done + count]`

pub take-next : (done count : ℕ) (chunk : List ℕ) → take (done + count) chunk ≡ take done chunk ++ take (done + count - done) (drop done chunk)
take-next done count chunk =
    let same : done + count - done ≡ count = omega arith in rw (same, take-add done count chunk) refl

-- ---- what was written to a stream

pub written_nothing : (held : Option (List ℕ)) → WrittenAs false (flow held held) []
written_nothing held = Appends-nil held

-- bytes that were written whole, and then others, whole or up to a failed write
pub written_then : (broken : Bool) (before held after : Option (List ℕ)) (u v : List ℕ) → WrittenAs false (flow before held) u
    → WrittenAs broken (flow held after) v → WrittenAs broken (flow before after) (u ++ v)
written_then false before held after u v first second = Appends-trans before held after u v first second
written_then true before held after u v first second = AppendsFront-after before held after u v first second

-- bytes that were written whole are a prefix of themselves, so they count as written even if a write failed
pub written_whole : (broken : Bool) (stream : Flow) (u : List ℕ) → WrittenAs false stream u → WrittenAs broken stream u
written_whole false stream u written = written
written_whole true stream u written = (u, [], sym (append-nil u), written)

-- a flush leaves the written bytes as they are, whether or not it fails
pub written_flushed : (broken : Bool) (before held after : Option (List ℕ)) (u : List ℕ) → WrittenAs false (flow before held) u → Keeps held after
    → WrittenAs broken (flow before after) u
written_flushed broken before held after u written kept = written_whole broken (flow before after) u (Appends-kept before held after u written kept)

-- ---- a run over one reader and one writer

-- these bytes were read and those were written so far, and the run's relation holds of both
pub record Moved (broken : Bool) (P : List ℕ → List ℕ → Type 0) (reader writer : Flow) : Type 0 where
  pub came : List ℕ
  pub given : List ℕ
  pub read : Consumes reader.before reader.after came
  pub written : WrittenAs broken writer given
  pub stands : P came given

module _ {P : List ℕ → List ℕ → Type 0} where
  -- the result of the run
  pub moves : {S : StreamRelation} {broken : Bool} {reader writer : Flow} → ((came given : List ℕ) → P came given → S (came ∷ []) (given ∷ []))
      → Moved broken P reader writer → Moves broken S (reader ∷ []) (writer ∷ [])
  moves conveys so_far =
      record {
        used = so_far.came ∷ [];
        given = so_far.given ∷ [];
        read = (so_far.read, tt);
        written = (so_far.written, tt);
        related = conveys so_far.came so_far.given so_far.stands;
      }

-- ---- what `?` returns is the error that occurred

pub at_fault : {T : Type 0} (r : Result T RunFault) (fault met : RunFault) (P : Result T RunFault → Type 0) → fault ≡ met
    → IsErrAnd r (λ e. e ≡ fault) → P (Err met) → P r
at_fault r fault met P named answered at =
    let (e, is, same) = err_from_is_err_and r answered in subst P (sym (is ∙ ap Err (same ∙ named))) at

pub holds_at_fault : {T : Type 0} (r : Result T RunFault) (fault : RunFault) (Q : T → Type 0) (Until : RunFault → Type 0)
    → IsErrAnd r (λ e. e ≡ fault) → Until fault → MatchResult r Q Until
holds_at_fault r fault Q Until met until =
    let (e, is, same) = err_from_is_err_and r met in
    subst (λ x. MatchResult x Q Until) (sym is) (subst Until (sym same) until)

-- an error that the bytes of a chunk show is reported in time
pub timely : (kind : Kind) (ended : Bool) (unused : List ℕ) → (kind ≡ Truncated → ⊥) → (kind ≡ StreamTooLong → 0 < length unused)
    → IsTimely kind ended unused
timely Truncated ended unused early more = absurd (early refl)
timely StreamTooLong ended unused early more = more refl
timely kind ended unused early more = tt
