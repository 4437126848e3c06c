use Rattle.std.proofs.Common.{◌∙◌, Err, inl, inr, sym, subst, refl, rules}
use Rattle.gitwire.specs.WrittenForC.{MeansReference, given, refused_name}
use Rattle.gitwire.proofs.GivenNames.{given_format, given_name, maybe_passes, reference_line}
use Rattle.gitwire.proofs.Handing.{line_fits, name_refused}
use Rattle.gitwire.proofs.line_writers.make_reference.Goals as goal

pub returns-in_err-id : goal.returns-in_err-id
returns-in_err-id c =
    let means = MeansReference c.args.format c.args.id.now c.args.name.now c.args.target.now c.args.peeled.now in
    let why = c.in_err-id.ensures in
    name_refused means _ _ _ c.from_residual.ensures.1
    (subst (λ fault. means (Err (refused_name fault))) (sym why.0) (c.in-Some.format, sym c.in-Some.ensures, inl (why.1, (why.2, refl))))

pub returns-in_err-target : goal.returns-in_err-target
returns-in_err-target c =
    let means = MeansReference c.args.format c.args.id.now c.args.name.now c.args.target.now c.args.peeled.now in
    let id_passes = maybe_passes c.in-Some.format c.args.id.now c.in_ok-id.id c.in_ok-id.ensures in
    let why = c.in_err-target.ensures in
    name_refused means _ _ _ c.from_residual-in_err-target.ensures.1
    (subst (λ fault. means (Err (refused_name fault))) (sym why.0)
    (c.in-Some.format, sym c.in-Some.ensures, inr (id_passes, inr (c.in_ok-name.ensures.name.1, inl (why.1, (why.2, refl))))))

pub returns-in_err-peeled : goal.returns-in_err-peeled
returns-in_err-peeled c =
    let means = MeansReference c.args.format c.args.id.now c.args.name.now c.args.target.now c.args.peeled.now in
    let id_passes = maybe_passes c.in-Some.format c.args.id.now c.in_ok-id.id c.in_ok-id.ensures in
    let why = c.in_err-peeled.ensures in
    name_refused means _ _ _ c.from_residual-in_err-peeled.ensures.1
    (subst (λ fault. means (Err (refused_name fault))) (sym why.0) (
      c.in-Some.format,
      sym c.in-Some.ensures,
      inr (id_passes, inr (c.in_ok-name.ensures.name.1, inr (c.in_ok-target.ensures.1, inl (why.1, (why.2, refl))))),
    ))

pub put_reference-requires : goal.put_reference-requires
put_reference-requires c =
    let format = c.in-Some.format in
    let target = c.in_ok-target.ensures in
    record {
      name = search rules;
      target = λ name is_target. given_name c.args.target.now name (sym target.0 ∙ is_target) target.1;
      one_format = (
        format,
        record {
          by_id = λ id is_id. given_format format (given c.args.id.now) c.in_ok-id.id id c.in_ok-id.ensures is_id;
          by_peeled = λ id is_peeled. given_format format (given c.args.peeled.now) c.in_ok-peeled.peeled id c.in_ok-peeled.ensures is_peeled;
        },
      );
    }

pub returns : goal.returns
returns c =
    let name = c.in_ok-name.ensures.name in
    let target = c.in_ok-target.ensures in (
      _,
      (
        c.in-Some.format,
        sym c.in-Some.ensures,
        record {
          is_name = name.1;
          is_target = target.1;
          id = c.in_ok-id.id;
          is_id = c.in_ok-id.ensures;
          peeled_id = c.in_ok-peeled.peeled;
          is_peeled = c.in_ok-peeled.ensures;
          line = reference_line c.in_ok-id.id c.in_ok-peeled.peeled (c.as_bytes.ensures.value ∙ name.0) target.0;
        },
      ),
      line_fits _ c.put_reference.ensures.fits,
      c.put_reference.ensures.written,
    )
