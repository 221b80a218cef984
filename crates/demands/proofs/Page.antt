-- All statements of the page hold. Each is proved in the file that it is taken from here. Assumes nothing.
use Rattle.demands.specs.Demands.{Page}
use Rattle.demands.proofs.Readers.{rule_reader, report_reader, one_reading}
use Rattle.demands.proofs.Marks.{evaluate, tree_relations, demand_2}
use Rattle.demands.proofs.Steps.{start, open_and_close}
use Rattle.demands.proofs.Verdicts.{demand_3, both_same}
use Rattle.demands.proofs.Written.{count_verdict, read_path, typed_means}
use Rattle.demands.proofs.Prints.{printout, print}

pub page : Page
page =
    record {
      rule_reader = rule_reader;
      report_reader = report_reader;
      one_reading = one_reading;
      evaluate = evaluate;
      start = start;
      open_and_close = open_and_close;
      count_verdict = count_verdict;
      read_path = read_path;
      tree_relations = tree_relations;
      demand_2 = demand_2;
      demand_3 = demand_3;
      both_same = both_same;
      typed_means = typed_means;
      printout = printout;
      print = print;
    }
