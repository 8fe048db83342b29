use Rattle.texts_answer.specs.Promise.{TextsPromise}
use Rattle.packing.specs.Packed.{packed_texts}
use Rattle.exports.proofs.Carried.{carried}
use Rattle.exports.proofs.jobs_from_pddl.Goals as goal

pub returns : goal.returns
returns c =
    let b = c.args in
    let p = c.job_from_texts-a.ensures in record {
      packs = carried (TextsPromise b.actions.now b.plan.now b.out.now c.job_from_texts-a.new.out) packed_texts p.answer p
          c.packed_texts.ensures;
      out_after = p.buffer;
    }
