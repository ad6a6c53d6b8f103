mod QuoteLaws
