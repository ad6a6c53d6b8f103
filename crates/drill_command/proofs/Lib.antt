mod DrillLaws
