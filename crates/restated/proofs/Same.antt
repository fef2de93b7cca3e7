-- Legal of crate rule is legal in lists, for every design whose edges' ends are bodies: a split is a deal (Deals.antt), and a part is sparse
-- exactly when the list of its bars is (Inside.antt).
-- Assumes nothing.
use mathlib.Core.Path.{subst}
use mathlib.Core.Logic.{◌↔◌}
use Rattle.rule.specs.Sets.{Set}
use Rattle.rule.specs.Legal.{Design, Ends, first_part, second_part, Legal}
use Rattle.restated.specs.Bars.{SparseBars, LegalBars}
use Rattle.restated.proofs.Inside.{bars_of, sparse_bars, bars_sparse}
use Rattle.restated.proofs.Deals.{split_dealt, dealt_split}

module _ (d : Design) (ends : Ends d) (s : Set) where
  legal_bars : Legal d s → LegalBars d.a d.b d.n (bars_of d s d.m)
  legal_bars legal =
      record {
        first = bars_of d (first_part d s legal.first) d.m;
        second = bars_of d (second_part d s legal.first) d.m;
        dealt = split_dealt d s legal.first d.m;
        reds_with_first = sparse_bars d ends _ d.a legal.reds_with_first;
        second_sparse = sparse_bars d ends _ d.b legal.second;
      }

  bars_legal : LegalBars d.a d.b d.n (bars_of d s d.m) → Legal d s
  bars_legal legal =
      let split = dealt_split d s d.m legal.first legal.second legal.dealt in
      record {
        first = split.first;
        reds_with_first = bars_sparse d ends _ d.a (subst (SparseBars d.n d.a) split.is_first legal.reds_with_first);
        second = bars_sparse d ends _ d.b (subst (SparseBars d.n d.b) split.is_second legal.second_sparse);
      }

  pub legal_iff_bars : Legal d s ↔ LegalBars d.a d.b d.n (bars_of d s d.m)
  legal_iff_bars = (legal_bars, bars_legal)
